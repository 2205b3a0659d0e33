-- What stands first where it takes that nothing stands at the first places for the same to stand at
-- the later ones.
use Rattle.std.proofs.Common.{◌↔◌, List, [], ◌∷◌, ◌++◌, inl, inr, ⊎_elim}
use Rattle.std.specs.List.{AllByRecursion}
use Rattle.it_base.specs.Places.{IsFirst, NoneAt}
use Rattle.it_base.proofs.Firsts.{first_alike}

module _ {P R : Type 0} where
  -- the same stands at a place
  abbrev pub SameAt : (P → R → Type 0) → (P → R → Type 0) → P → Type 0
  SameAt At Bt p = (r : R) → At p r ↔ Bt p r

  pub first_alike_behind : (At Bt : P → R → Type 0) (ps qs : List P)
      → AllByRecursion (SameAt At Bt) ps
      → (NoneAt At ps → (q : P) (r : R) → At q r → Bt q r)
      → (NoneAt Bt ps → (q : P) (r : R) → Bt q r → At q r) → (r : R) → IsFirst At (ps ++ qs) r
      → IsFirst Bt (ps ++ qs) r
  first_alike_behind At Bt [] qs same there back r h =
      first_alike At Bt qs (λ q c. there tt q) (λ q c. back tt q) r h
  first_alike_behind At Bt (p ∷ ps) qs same there back r h =
      ⊎_elim (λ x. inl ((same.0 r).0 x))
      (λ x. let none : (other : R) → ¬ Bt p other = λ other y. x.0 other ((same.0 other).1 y) in
      inr (
        none,
        first_alike_behind At Bt ps qs same.1 (λ rest. there (x.0, rest))
            (λ rest. back (none, rest)) r x.1,
      )) h
