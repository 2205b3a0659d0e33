-- What holds of a value that was found.
use Rattle.std.proofs.Common.{Option, Some, None, Result, Ok, Err, IfOk}
use Rattle.it_base.specs.Finds.{FindsAs}

module _ {X Y : Type 0} (shown : X → Y) (P Q : Y → Type 0) (more : (y : Y) → P y → Q y)
    (back : (y : Y) → Q y → P y) where
  finds_alike : (found : Option X) → FindsAs shown P found → FindsAs shown Q found
  finds_alike None h = λ y q. h y (back y q)
  finds_alike (Some x) h = more (shown x) h

  -- the same is found where each says the other
  pub ok_finds_alike : {E : Type 0} (r : Result (Option X) E) → IfOk r (FindsAs shown P)
      → IfOk r (FindsAs shown Q)
  ok_finds_alike (Ok found) h = finds_alike found h
  ok_finds_alike (Err e) h = h
