-- The fault of a folder with a bad name in it (this profile's choice).
use Rattle.std.specs.Prelude.{ℕ, List}
use Rattle.it_disk.specs.Faults.{Shows}
use Rattle.it_disk.specs.declared.fault.Fault.{Fault}
use Rattle.it_disk.specs.declared.fault.Fault.TheVariants.{BadName}

-- the fault says that a name in the folder at the path is not UTF-8
abbrev pub IsBadName : List ℕ → Fault → Type 0
IsBadName path (BadName shown) = Shows shown path
IsBadName path other = ⊥
