use Rattle.std.proofs.Common.{arith, ap, codes, length}
use Rattle.it_borrowed.specs.Tree.{as_data}
use Rattle.it_base.specs.Parts.{IsPart}
use Rattle.it_base.specs.Sequence.{IsList}
use Rattle.it_trust_root.specs.Authority.{IsRawBytes}
use Rattle.it_trust_root.proofs.Lengths.{list_long, part_long}
use Rattle.it_trust_root.proofs.authority.AuthorityFromBorrowed.from_borrowed.Goals as goal
use Rattle.it_trust_root.proofs.authority.AuthorityFromBorrowed.from_borrowed.Goals.{then-count-eq0-via-then-count-eq0, then-count-eq0-via-else-count-eq0+then-count-gt-MOST_CERTIFICATES}

pub returns-in_default : goal.returns-in_default
returns-in_default c = λ authority is.
    (rw c.in_default.is at c.in_ok-certificates.ensures) authority.certificates is.certificates

pub returns-then-count-eq0 : goal.returns-then-count-eq0
returns-then-count-eq0 c = λ authority is.
    let same = part_long (IsPart (IsList IsRawBytes) (codes "certificates"))
    (part_long (IsList IsRawBytes) (list_long IsRawBytes) (codes "certificates"))
    (codes "certChain") (as_data c.args.value.now) authority.certificates c.in-Some.certificates
    is.certificates (rw c.in-Some.is at c.in_ok-certificates.ensures) in
    let some = is.some in
    let few = is.few in
    let shown = ap length c.as_slice-count.ensures in
    elim c.then-count-eq0.branch [
      | then-count-eq0-via-then-count-eq0 w ↦ let zero = w.if-count-eq0 in omega (arith, same, some, shown, zero)
      | then-count-eq0-via-else-count-eq0+then-count-gt-MOST_CERTIFICATES w ↦
          let above = w.if-count-gt-MOST_CERTIFICATES in omega (arith, same, few, shown, above)
    ]
