use Rattle.std.proofs.Common.{codes}
use Rattle.it_borrowed.specs.Tree.{as_data}
use Rattle.it_base.specs.Parts.{IsPart}
use Rattle.it_base.specs.Sequence.{IsList}
use Rattle.it_trust_root.specs.Authority.{IsRawBytes}
use Rattle.it_trust_root.proofs.Parts.{part_of}
use Rattle.it_trust_root.proofs.authority.certificates_of.Goals as goal

pub returns-in-Some : goal.returns-in-Some
returns-in-Some c = part_of (IsPart (IsList IsRawBytes) (codes "certificates")) (codes "certChain")
    (as_data c.args.value.now) (as_data c.in-Some.found.now) c.part.result c.in-Some.ensures c.part.ensures
