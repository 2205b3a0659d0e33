use Rattle.std.proofs.Common.{◌≡◌, [], length, ap, codes, arith}
use Rattle.it_borrowed.specs.Tree.{as_data}
use Rattle.it_base.specs.Sequence.{IsList}
use Rattle.it_base.proofs.Unique.{list_same}
use Rattle.it_log_entry.specs.InclusionProof.{IsHash}
use Rattle.it_log_entry.proofs.Same.{hash_same, part_or_same}
use Rattle.it_log_entry.proofs.inclusion_proof.InclusionProofFromBorrowed.from_borrowed.Goals as goal

pub returns-then-as_slice-gt-MOST_HASHES : goal.returns-then-as_slice-gt-MOST_HASHES
returns-then-as_slice-gt-MOST_HASHES c = λ proof is.
    let same : proof.path ≡ c.in-Some-4.path = part_or_same (IsList IsHash) []
    (codes "hashes") (list_same IsHash hash_same) (as_data c.args.value.now) proof.path
    c.in-Some-4.path is.path (rw c.in-Some-4.is at c.in_ok-path.ensures) in
    let short = is.path_short in
    omega (
      arith,
      ap length same,
      ap length c.as_slice.ensures,
      c.if-as_slice-gt-MOST_HASHES.true,
    )
