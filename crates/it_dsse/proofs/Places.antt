-- The first place of an element that passes a test, as a list grows at its end.
use Rattle.std.proofs.Common.{◌≡◌, ℕ, ◌+◌, ◌<◌, List, [], ◌∷◌, ◌++◌, Bool, true, false, cond}
use Rattle.std.proofs.Common.{Option, Some, None, length, take, get_or, refl, sym, ap, arith, ◌∙◌}
use Rattle.std.proofs.Common.{add-zero, inl, inr}
use Rattle.std.specs.List.{position, position_from, position_or_len, find, slice_get}
use Rattle.std.specs.Option.{is_some, option_or, option_and_then}
use Rattle.std.specs.Bool.{nat_lt}
use Rattle.std.specs.Str.{bytes_eq}
use Rattle.std.proofs.lemmas.Iterator.Adapters.{position_from-zero}
use Rattle.std.proofs.lemmas.List.{take_more, length-take-le}
use Rattle.std.proofs.lemmas.List.Folds.{find_at}
use Rattle.std.proofs.lemmas.Option.{slice_get_past}
use Rattle.std.proofs.lemmas.Bool.{cases_Bool}
use borrow.Author.Tests.{ltb-false}
use Rattle.std.proofs.lemmas.Slice.Eq.{bytes_eq-Decides}

position_from-push : {X : Type 0} (p : X → Bool) (i : ℕ) (xs : List X) (y : X)
    → position_from p i (xs ++ y ∷ []) ≡ option_or (position_from p i xs)
    (cond (p y) (Some (i + length xs)) None)
position_from-push p i [] y = ap (λ n. cond (p y) (Some n) None) (sym (add-zero i))
position_from-push p i (x ∷ xs) y =
    elim (p x) as (λ b. cond b (Some i) (position_from p (i + 1) (xs ++ y ∷ [])) ≡ option_or
    (cond b (Some i) (position_from p (i + 1) xs))
    (cond (p y) (Some (i + length (x ∷ xs))) None)) [
      | true ↦ refl
      | false ↦
          let same : i + 1 + length xs ≡ i + length (x ∷ xs) = omega arith in
          position_from-push p (i + 1) xs y
          ∙ ap (λ n. option_or (position_from p (i + 1) xs) (cond (p y) (Some n) None)) same
    ]

-- one more element at the end, which stands first where nothing before it passes
pub position-push : {X : Type 0} (p : X → Bool) (xs : List X) (y : X)
    → position p (xs ++ y ∷ []) ≡ option_or (position p xs) (cond (p y) (Some (length xs)) None)
position-push p xs y =
    position_from-zero p (xs ++ y ∷ []) ∙ position_from-push p 0 xs y
    ∙ ap (λ n. option_or (position_from p 0 xs) (cond (p y) (Some n) None))
    (let e : 0 + length xs ≡ length xs = omega arith in e)
    ∙ ap (λ o. option_or o (cond (p y) (Some (length xs)) None)) (sym (position_from-zero p xs))

-- a table of first places, over one more element of a list
pub places_more : {Q X : Type 0} (p : Q → X → Bool) (xs : List X) (i : ℕ) (x : X)
    (old new : Q → Option ℕ)
    → i < length xs → x ≡ get_or xs i x
    → ((q : Q) → old q ≡ position (p q) (take i xs))
    → ((q : Q) → new q ≡ option_or (old q) (cond (p q x) (Some i) None))
    → (q : Q) → new q ≡ position (p q) (take (i + 1) xs)
places_more p xs i x old new below here before step q =
    let cut : take (i + 1) xs ≡ take i xs ++ x ∷ [] = take_more xs i x below
    ∙ ap (λ y. take i xs ++ y ∷ []) (sym here) in
    let long : length (take i xs) ≡ i = length-take-le i xs (omega arith) in
    step q ∙ ap (λ o. option_or o (cond (p q x) (Some i) None)) (before q)
    ∙ ap (λ n. option_or (position (p q) (take i xs)) (cond (p q x) (Some n) None)) (sym long)
    ∙ sym (position-push (p q) (take i xs) x) ∙ ap (position (p q)) (sym cut)

or_none : (o : Option ℕ) → o ≡ option_or o None
or_none None = refl
or_none (Some n) = refl

-- a new entry in the table, where there was none
pub placed_new : (k : List ℕ) (i : ℕ) (old : List ℕ → Option ℕ) → None ≡ old k
    → (q : List ℕ) → cond (bytes_eq k q) (Some i) (old q) ≡ option_or (old q)
    (cond (bytes_eq k q) (Some i) None)
placed_new k i old none q =
    elim (cases_Bool (bytes_eq k q)) [
      | inl e ↦
          let there : old q ≡ None = ap old (sym ((bytes_eq-Decides k q).0 e)) ∙ sym none in
          rw (e, there) refl
      | inr e ↦ rw e (or_none (old q))
    ]

-- an entry that was there stays
pub placed_before : (k : List ℕ) (i n : ℕ) (old : List ℕ → Option ℕ) → Some n ≡ old k
    → (q : List ℕ) → old q ≡ option_or (old q) (cond (bytes_eq k q) (Some i) None)
placed_before k i n old there q =
    elim (cases_Bool (bytes_eq k q)) [
      | inl e ↦
          let is : old q ≡ Some n = ap old (sym ((bytes_eq-Decides k q).0 e)) ∙ sym there in
          rw (e, is) refl
      | inr e ↦ rw e (or_none (old q))
    ]

-- what is found is what stands at the first place
pub find-position : {X : Type 0} (p : X → Bool) (xs : List X)
    → find p xs ≡ option_and_then (slice_get xs) (position p xs)
find-position p xs =
    find_at p xs ∙ elim (cases_Bool (nat_lt (position_or_len p xs) (length xs))) [
      | inl e ↦ rw e refl
      | inr e ↦ rw e (slice_get_past xs (position_or_len p xs) (ltb-false _ _ e))
    ]

-- a place is found, or none is
pub there : (o : Option ℕ) → true ≡ is_some o → (n : ℕ) × (Some n ≡ o)
there None e = cc
there (Some n) e = (n, refl)

pub not_there : (o : Option ℕ) → false ≡ is_some o → None ≡ o
not_there None e = refl
not_there (Some n) e = cc
