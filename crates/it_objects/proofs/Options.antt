-- What holds of the value that is made from that of an option.
use Rattle.std.proofs.Common.{Option, Some, None, option_map, option_and_then}
use Rattle.std.specs.Option.{IfSome}

module _ {A B : Type 0} (P : A → Type 0) (Q : B → Type 0) where
  pub map_holds : (f : A → B) → ((a : A) → P a → Q (f a)) → (o : Option A) → IfSome o P
      → IfSome (option_map f o) Q
  map_holds f keeps None h = tt
  map_holds f keeps (Some a) h = keeps a h

  pub and_then_holds : (f : A → Option B) → ((a : A) → P a → IfSome (f a) Q) → (o : Option A)
      → IfSome o P → IfSome (option_and_then f o) Q
  and_then_holds f keeps None h = tt
  and_then_holds f keeps (Some a) h = keeps a h
