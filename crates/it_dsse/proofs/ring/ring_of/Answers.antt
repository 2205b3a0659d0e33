use Rattle.std.proofs.Common.{ap, arith, length, subst}
use Rattle.std.specs.List.{IsDistinct}
use Rattle.std.specs.Str.{bytes_eq}
use Rattle.it_dsse.specs.Ring.{ids_of}
use Rattle.it_dsse.specs.declared.ring_entry.RingEntry.{RingEntry}
use Rattle.it_dsse.proofs.Rings.{same_entries}
use Rattle.it_dsse.proofs.ring.ring_of.Goals as goal

pub returns-in_default : goal.returns-in_default
returns-in_default c = λ ring is. (rw c.in_default.is at c.in_ok-entries.ensures) ring is.entries

pub returns-then-as_slice-gt-MOST_ENTRIES : goal.returns-then-as_slice-gt-MOST_ENTRIES
returns-then-as_slice-gt-MOST_ENTRIES c = λ ring is.
    let same = same_entries c.args.bytes.now ring c.in-Some.entries is.entries
    (rw c.in-Some.is at c.in_ok-entries.ensures) in
    omega (
      arith,
      c.if-as_slice-gt-MOST_ENTRIES.true,
      is.few,
      ap (length {A = RingEntry}) same,
      ap (length {A = RingEntry}) c.as_slice.ensures,
    )

pub returns-in_default-2 : goal.returns-in_default-2
returns-in_default-2 c = λ ring is.
    let same = same_entries c.args.bytes.now ring c.in-Some.entries is.entries
    (rw c.in-Some.is at c.in_ok-entries.ensures) in
    (rw (c.in_default-2.is, c.as_slice-2.ensures) at c.in_ok-places_of_ids.ensures)
    (subst (λ r. IsDistinct bytes_eq (ids_of r)) same is.distinct)
