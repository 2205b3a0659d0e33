use Rattle.it_findings.proofs.Agreeing.{nobody_looks_at_more}
use Rattle.it_findings.proofs.laws.nobody_looks_at_more.Goals as goal

pub returns : goal.returns
returns c = nobody_looks_at_more
