-- Paths that are lent, and what holds of one of some elements.
use Rattle.std.proofs.Common.{◌≡◌, ◌⊎◌, ℕ, List, [], ◌∷◌, ◌++◌, inl, inr, Bor, Any}
use Rattle.std.proofs.Common.{◌<◌, ◌≤◌, ◌+◌, ◌-◌, drop, ◌∙◌, ◌↔◌, ap, arith, get_or, length, IsTrue, Bool, Some}
use Rattle.std.proofs.Common.{Contains, map, subst, sym, ⊎_elim}
use Rattle.std.specs.List.{slice_get, slice_range}
use Rattle.std.proofs.lemmas.List.{length-drop, length-take}
use Rattle.std.proofs.lemmas.List.Edits.{get_or-between}
use Rattle.std.proofs.lemmas.Option.{slice_get-get_or}
use Rattle.std.proofs.lemmas.List.Elements.{Contains-append_left, Contains-push_cases}
use Rattle.it_base.proofs.Members.{in_cases, in_head, in_none, in_tail}

module _ {X : Type 0} (P : X → Type 0) where
  -- something holds of an element
  pub any_at : (xs : List X) (x : X) → Contains xs x → P x → Any P xs
  any_at xs x c p = (c.0, x, c.1, c.2, p)

  pub any_none : ¬ Any P []
  any_none a = in_none a.1 (a.0, a.2, a.3)

  pub any_before : (xs : List X) (y : X) → Any P xs → Any P (xs ++ y ∷ [])
  any_before xs y a =
      any_at (xs ++ y ∷ []) a.1 (Contains-append_left xs (y ∷ []) a.1 (a.0, a.2, a.3)) a.4

  -- it holds of an element, or of the last one
  pub any_cases : (xs : List X) (y : X) → Any P (xs ++ y ∷ []) → Any P xs ⊎ P y
  any_cases xs y a = ⊎_elim (λ c. inl (any_at xs a.1 c a.4)) (λ e. inr (subst P (sym e) a.4))
      (Contains-push_cases xs y a.1 (a.0, a.2, a.3))

-- a path is among some that are lent
abbrev pub Among : List (Bor (List ℕ)) → List ℕ → Type 0
Among paths path = Contains (map (λ lent. lent.now) paths) path

-- a path that is among some that are lent is one of these
pub among_lent : (paths : List (Bor (List ℕ))) (path : List ℕ) → Among paths path
    → (lent : Bor (List ℕ)) × Contains paths lent × (lent.now ≡ path)
among_lent [] path c = absurd (in_none path c)
among_lent (x ∷ xs) path c = ⊎_elim (λ e. (x, in_head x xs, e))
    (λ b. let found = among_lent xs path b in
    (found.0, in_tail x xs found.0 found.1, found.2))
    (in_cases x.now (map (λ lent. lent.now) xs) path c)

pub lent_among : (paths : List (Bor (List ℕ))) (lent : Bor (List ℕ)) → Contains paths lent
    → Among paths lent.now
lent_among [] lent c = absurd (in_none lent c)
lent_among (x ∷ xs) lent c = ⊎_elim
    (λ e. subst (λ l. Among (x ∷ xs) l.now) e (in_head x.now (map (λ each. each.now) xs)))
    (λ b. in_tail x.now (map (λ each. each.now) xs) lent.now (lent_among xs lent b))
    (in_cases x xs lent c)

module _ {X : Type 0} (P : X → Type 0) (xs : List X) (start end : ℕ) (first : start ≤ end)
    (within : end ≤ length xs) where
  long : length (slice_range xs start end) ≡ end - start
  long = omega (arith, first, within, length-take (end - start) (drop start xs), length-drop start xs)

  from_part : Any P (slice_range xs start end) → Any P xs
  from_part any =
      let below : start + any.0 < end = omega (arith, long, any.2) in (
        start + any.0,
        any.1,
        omega (arith, below, within),
        sym (get_or-between xs start end any.0 any.1 below) ∙ any.3,
        any.4,
      )

  into_part : ((i : ℕ) (x : X) → slice_get xs i ≡ Some x → P x → (start ≤ i) × (i < end))
      → Any P xs → Any P (slice_range xs start end)
  into_part each any =
      let i = any.0 in
      let inside = each i any.1
      (slice_get-get_or xs i any.1 any.2 ∙ ap Some any.3) any.4 in
      let low = inside.0 in
      let high = inside.1 in
      let same : start + (i - start) ≡ i = omega (arith, low) in (
        i - start,
        any.1,
        omega (arith, low, high, long),
        get_or-between xs start end (i - start) any.1 (omega (arith, low, high))
            ∙ ap (λ n. get_or xs n any.1) same ∙ any.3,
        any.4,
      )

  -- where what P holds of is in a part, it holds of one of the part where it holds of one of all
  pub any_in_part : (r : Bool)
      → ((i : ℕ) (x : X) → slice_get xs i ≡ Some x → P x → (start ≤ i) × (i < end))
      → IsTrue r ↔ Any P (slice_range xs start end) → IsTrue r ↔ Any P xs
  any_in_part r each told =
      (λ h. from_part (told.0 h), λ any. told.1 (into_part each any))
