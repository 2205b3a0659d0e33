use Rattle.it_base.specs.Base64Text.{base64_encoded}
use Rattle.it_base.proofs.Alphabets.{reads_back}
use Rattle.it_base.proofs.base64_text.base64_text_of.Goals as goal

pub returns-clause-text : goal.returns-clause-text
unfolding base64_encoded
returns-clause-text c = c.standard_text.ensures.text

pub returns-clause-reads_back : goal.returns-clause-reads_back
unfolding base64_encoded
returns-clause-reads_back c =
    reads_back c.args.bytes.now c.standard_text.result c.standard_text.ensures.text
    c.standard_text.ensures.decodes
