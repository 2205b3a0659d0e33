use Rattle.it_findings.proofs.meaning.is_known.Goals as goal

pub returns : goal.returns
returns c = rw c.known_names.ensures at c.is_among.ensures
