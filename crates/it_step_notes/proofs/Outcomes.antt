-- What holds of a value that was found.
use Rattle.std.proofs.Common.{Option, Some, None, Result, Ok, Err, IfOk, IfSome}
use Rattle.it_base.specs.Finds.{Finds}

module _ {X : Type 0} (P Q : X → Type 0) (more : (x : X) → P x → Q x) where
  some_weaker : (found : Option X) → IfSome found P → IfSome found Q
  some_weaker None h = h
  some_weaker (Some x) h = more x h

  pub ok_some_weaker : {E : Type 0} (r : Result (Option X) E) → IfOk r (λ found. IfSome found P)
      → IfOk r (λ found. IfSome found Q)
  ok_some_weaker (Ok found) h = some_weaker found h
  ok_some_weaker (Err e) h = h

  -- the same is found where each says the other
  module _ (back : (x : X) → Q x → P x) where
    finds_alike : (found : Option X) → Finds P found → Finds Q found
    finds_alike None h = λ x q. h x (back x q)
    finds_alike (Some x) h = more x h

    pub ok_finds_alike : {E : Type 0} (r : Result (Option X) E) → IfOk r (Finds P)
        → IfOk r (Finds Q)
    ok_finds_alike (Ok found) h = finds_alike found h
    ok_finds_alike (Err e) h = h

  pub ok_found : {E : Type 0} (r : Result (Option X) E) → IfOk r (Finds P)
      → IfOk r (λ found. IfSome found Q)
  ok_found (Ok None) h = tt
  ok_found (Ok (Some x)) h = more x h
  ok_found (Err e) h = h
