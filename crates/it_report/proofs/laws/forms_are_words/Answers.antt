use Rattle.it_report.proofs.Forms.{forms_are_words as proof}
use Rattle.it_report.proofs.laws.forms_are_words.Goals as goal

pub returns : goal.returns
returns c = proof
