use Rattle.std.proofs.Common.{inr}
use Rattle.it_disk.proofs.files.read_keys.Goals as goal

pub returns-clause-faults : goal.returns-clause-faults
returns-clause-faults g c =
    let none = rw c.in-None.is at c.in_ok-keys.ensures in
    inr (
      c.in_ok-of-in-None.ensures,
      c.in_ok-bytes.bytes.items,
      c.in_ok-bytes.ensures.holds,
      rw c.as_slice.ensures.value at none,
    )
