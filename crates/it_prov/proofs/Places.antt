-- The places of the elements of a list that pass a test.
use Rattle.std.proofs.Common.{◌≡◌, ◌<◌, ◌≤◌, ◌+◌, ℕ, zero, suc, List, [], ◌∷◌, length}
use Rattle.std.proofs.Common.{Bool, true, false, if◌then◌else◌, Some, Contains, take, get_or}
use Rattle.std.proofs.Common.{inl, inr, refl, sym, ap, subst, ◌∙◌, arith, nat_cmp}
use Rattle.std.specs.Cmp.{nat_cmp_is}
use Rattle.std.specs.declared.cmp.Ordering.TheVariants.{Less}
use Rattle.std.specs.List.{slice_get, sum_by}
use Rattle.std.specs.List.Sorted.{IsStrictlySortedBy}
use Rattle.std.proofs.lemmas.Bool.{true≢false}
use Rattle.std.proofs.lemmas.List.Elements.{All-from_get_or, Contains-get_or}
use Rattle.std.proofs.lemmas.List.Elements.{recursion_from_All}
use Rattle.std.proofs.lemmas.List.Sums.{sum_by-cons}
use Rattle.std.proofs.lemmas.Option.{same_Some, slice_get_within}
use Rattle.it_base.proofs.Members.{in_cases, in_head, in_none, in_tail}
use Rattle.it_prov.specs.inside.Indexed.{AreBelow, places_where}

module _ {X : Type 0} (test : X → Bool) where
  -- what stands at one of the places, if the first of the elements stands at k
  abbrev pub At : ℕ → List X → ℕ → Type 0
  At k xs p = (i : ℕ) × (x : X) × (p ≡ k + i) × (slice_get xs i ≡ Some x) × (test x ≡ true)

  later_at : (k : ℕ) (x : X) (xs : List X) (p : ℕ) → At (k + 1) xs p → At k (x ∷ xs) p
  later_at k x xs p h = (suc h.0, h.1, (let e = h.2 in omega (arith, e)), h.3, h.4)

  first_at : (k : ℕ) (x : X) (xs : List X) (p : ℕ) (rest : List ℕ)
      → (Contains rest p → At (k + 1) xs p) → (b : Bool) → test x ≡ b
      → Contains (if b then k ∷ rest else rest) p → At k (x ∷ xs) p
  first_at k x xs p rest later true e c = elim (in_cases k rest p c) [
    | inl same ↦ (0, x, omega (arith, same), refl, e)
    | inr c' ↦ later_at k x xs p (later c')
  ]
  first_at k x xs p rest later false e c = later_at k x xs p (later c)

  -- a place stands at an element that passes
  pub where_at : (k : ℕ) (xs : List X) (p : ℕ) → Contains (places_where test k xs) p → At k xs p
  where_at k [] p c = absurd (in_none p c)
  where_at k (x ∷ xs) p c = first_at k x xs p (places_where test (k + 1) xs)
      (where_at (k + 1) xs p) (test x) refl c

  -- the places are in order, each once
  ascends_first : (b : Bool) (k : ℕ) (rest : List ℕ)
      → ((p : ℕ) → Contains rest p → k < p) → IsStrictlySortedBy nat_cmp rest
      → IsStrictlySortedBy nat_cmp (if b then k ∷ rest else rest)
  unfolding IsStrictlySortedBy
  ascends_first true k rest above h = (
    recursion_from_All (λ p. nat_cmp k p ≡ Less) rest
        (All-from_get_or (λ p. nat_cmp k p ≡ Less) rest 0
        (λ i below. let p = get_or rest i 0 in
        sym (nat_cmp_is k p Less (above p (Contains-get_or rest i 0 below))))),
    h,
  )
  ascends_first false k rest above h = h

  pub where_ascends : (k : ℕ) (xs : List X) → IsStrictlySortedBy nat_cmp (places_where test k xs)
  unfolding IsStrictlySortedBy
  where_ascends k [] = tt
  where_ascends k (x ∷ xs) = ascends_first (test x) k (places_where test (k + 1) xs)
      (λ p c. let at = where_at (k + 1) xs p c in let is = at.2 in omega (arith, is))
      (where_ascends (k + 1) xs)

  -- and below the number of the elements
  pub where_below : (xs : List X) → AreBelow (length xs) (places_where test 0 xs)
  where_below xs = λ p c.
      let at = where_at 0 xs p c in
      let within = slice_get_within xs at.0 at.1 at.3 in
      let is = at.2 in
      omega (arith, within, is)

  has_first : (b : Bool) (k : ℕ) (rest : List ℕ) (p : ℕ) → b ≡ true → p ≡ k
      → Contains (if b then k ∷ rest else rest) p
  has_first true k rest p e same = subst (Contains (k ∷ rest)) (sym same) (in_head k rest)
  has_first false k rest p e same = absurd (true≢false (sym e))

  has_later : (b : Bool) (k : ℕ) (rest : List ℕ) (p q : ℕ) → p ≡ q → Contains rest p
      → Contains (if b then k ∷ rest else rest) q
  has_later true k rest p q same c = subst (Contains (k ∷ rest)) same (in_tail k rest p c)
  has_later false k rest p q same c = subst (Contains rest) same c

  passes : (y x : X) → Some y ≡ Some x → test x ≡ true → test y ≡ true
  passes y x e t = subst (λ z. test z ≡ true) (sym (same_Some y x e)) t

  -- each element that passes has its place there
  pub where_has : (k : ℕ) (xs : List X) (i : ℕ) (x : X) → slice_get xs i ≡ Some x → test x ≡ true
      → Contains (places_where test k xs) (k + i)
  where_has k [] i x e t = cc
  where_has k (y ∷ ys) zero x e t = has_first (test y) k (places_where test (k + 1) ys) (k + 0)
      (passes y x e t) (omega arith)
  where_has k (y ∷ ys) (suc i) x e t = has_later (test y) k (places_where test (k + 1) ys)
      (k + 1 + i) (k + suc i) (omega arith) (where_has (k + 1) ys i x e t)

  before_first : (k : ℕ) (y : X) (ys : List X) (rest : List ℕ) (p : ℕ) (x : X)
      → ((j i : ℕ) → slice_get rest j ≡ Some p → slice_get ys i ≡ Some x → k + 1 + i < p
      → Contains (take j rest) (k + 1 + i)) → test x ≡ true → (b : Bool) → test y ≡ b
      → (j i : ℕ) → slice_get (if b then k ∷ rest else rest) j ≡ Some p
      → slice_get (y ∷ ys) i ≡ Some x → k + i < p
      → Contains (take j (if b then k ∷ rest else rest)) (k + i)
  before_first k y ys rest p x later t true e zero i at there less =
      let same = same_Some k p at in absurd (omega (arith, same, less))
  before_first k y ys rest p x later t true e (suc j) zero at there less =
      let same : k ≡ k + 0 = omega arith in
      subst (Contains (k ∷ take j rest)) same (in_head k (take j rest))
  before_first k y ys rest p x later t true e (suc j) (suc i) at there less =
      let same : k + 1 + i ≡ k + suc i = omega arith in
      subst (Contains (k ∷ take j rest)) same (in_tail k (take j rest) (k + 1 + i)
      (later j i at there (omega (arith, less))))
  before_first k y ys rest p x later t false e j zero at there less =
      absurd (true≢false (sym (passes y x there t) ∙ e))
  before_first k y ys rest p x later t false e j (suc i) at there less =
      let same : k + 1 + i ≡ k + suc i = omega arith in
      subst (Contains (take j rest)) same (later j i at there (omega (arith, less)))

  -- an element that passes before a place has its own before it there
  pub where_before : (k : ℕ) (xs : List X) (p : ℕ) (x : X) → test x ≡ true → (j i : ℕ)
      → slice_get (places_where test k xs) j ≡ Some p → slice_get xs i ≡ Some x → k + i < p
      → Contains (take j (places_where test k xs)) (k + i)
  where_before k [] p x t = λ j i at there less. cc
  where_before k (y ∷ ys) p x t = before_first k y ys (places_where test (k + 1) ys) p x
      (where_before (k + 1) ys p x t) t (test y) refl

  sum_cases : (f : ℕ → ℕ) (k n total : ℕ) (rest : List ℕ) → f k ≡ n → sum_by f rest ≤ total
      → (b : Bool) → sum_by f (if b then k ∷ rest else rest) ≤ n + total
  sum_cases f k n total rest same less true =
      rw (sum_by-cons f k rest) (omega (arith, same, less))
  sum_cases f k n total rest same less false = omega (arith, less)

  -- what the places have together is at most what all have
  pub where_sum : {Y : Type 0} (size : Y → ℕ) (f : ℕ → ℕ) (k : ℕ) (xs : List X) (ys : List Y)
      → length xs ≡ length ys → ((i : ℕ) (y : Y) → slice_get ys i ≡ Some y → f (k + i) ≡ size y)
      → sum_by f (places_where test k xs) ≤ sum_by size ys
  where_sum size f k [] ys same each = omega arith
  where_sum size f k (x ∷ xs) [] same each = absurd (omega (arith, same))
  where_sum size f k (x ∷ xs) (y ∷ ys) same each =
      subst (λ n. sum_by f (places_where test k (x ∷ xs)) ≤ n) (sym (sum_by-cons size y ys))
      (sum_cases f k (size y) (sum_by size ys) (places_where test (k + 1) xs)
      (let here : k ≡ k + 0 = omega arith in ap f here ∙ each 0 y refl)
      (where_sum size f (k + 1) xs ys (omega (arith, same))
      (λ i z e. let at : k + 1 + i ≡ k + suc i = omega arith in ap f at ∙ each (suc i) z e))
      (test x))
