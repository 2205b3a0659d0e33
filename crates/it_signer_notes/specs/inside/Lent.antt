-- Values that are lent.
use Rattle.std.specs.Prelude.{List, map}
use Rattle.std.specs.Borrow.{Bor}

-- what the references of a list point to
abbrev pub lent : {X : Type 0} → List (Bor X) → List X
lent references = map (λ reference. reference.now) references
