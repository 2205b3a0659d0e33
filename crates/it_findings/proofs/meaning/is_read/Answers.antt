use Rattle.it_findings.proofs.meaning.is_read.Goals as goal

pub returns : goal.returns
returns c = rw c.read_names.ensures at c.is_among.ensures
