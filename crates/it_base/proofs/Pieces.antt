-- What a writer was given, piece by piece.
use Rattle.std.proofs.Common.{◌≡◌, ℕ, ◌+◌, ◌-◌, List, ◌++◌, take, drop, Option, arith, length}
use Rattle.std.proofs.Common.{length-append, length-drop}
use Rattle.std.proofs.Math.Seq.{take-add, take-append-add}
use Rattle.std.proofs.KnownBytes.{Appends-trans}
use Rattle.std.proofs.lemmas.List.{take_all}
use Rattle.std.specs.Io.KnownBytes.{Appends}
use Rattle.it_base.specs.Writing.{AppendsBeginning}

-- the next piece went out
pub appends_more : (old mid new : Option (List ℕ)) (bytes : List ℕ) (at n : ℕ)
    → Appends old mid (take at bytes)
    → Appends mid new (take n (take (length bytes - at) (drop at bytes)))
    → Appends old new (take (at + n) bytes)
appends_more old mid new bytes at n before piece =
    let rest : take (length bytes - at) (drop at bytes) ≡ drop at bytes =
    take_all (length bytes - at) (drop at bytes) (omega (arith, length-drop at bytes)) in
    rw take-add (Appends-trans old mid new (take at bytes) (take n (drop at bytes)) before
    (rw rest at piece))

-- a beginning of the second part went out after the whole first part
pub beginning_after : (old mid new : Option (List ℕ)) (first second : List ℕ)
    → Appends old mid first → AppendsBeginning mid new second
    → AppendsBeginning old new (first ++ second)
beginning_after old mid new first second before (n, within, piece) = (
  length first + n,
  omega (arith, length-append first second),
  rw take-append-add (Appends-trans old mid new first (take n second) before piece),
)
