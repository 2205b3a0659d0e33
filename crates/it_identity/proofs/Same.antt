-- A key object describes one identity at most.
use Rattle.std.proofs.Common.{codes}
use Rattle.it_base.specs.Parts.{IsPart}
use Rattle.it_base.specs.Text.{IsText}
use Rattle.it_base.proofs.Unique.{IsUnique, part_same, text_same}
use Rattle.it_identity.specs.KeyObject.{DescribesIdentity}

pub described_same : IsUnique DescribesIdentity
described_same d x y h k =
    let name = part_same (IsPart IsText (codes "identity"))
    (part_same IsText text_same (codes "identity")) (codes "keyval") d x.name y.name h.name k.name in
    let issuer = part_same (IsPart IsText (codes "issuer"))
    (part_same IsText text_same (codes "issuer")) (codes "keyval") d x.issuer y.issuer h.issuer
    k.issuer in
    λ i. record { name = name i; issuer = issuer i }
