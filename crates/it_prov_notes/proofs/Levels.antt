-- The greatest level of the builders of an id.
use Rattle.std.proofs.Common.{◌≡◌, ◌⊎◌, ◌∙◌, ◌+◌, ◌<◌, ◌≤◌, ℕ, List, [], ◌∷◌, ◌++◌, length, take}
use Rattle.std.proofs.Common.{get_or, Option, Some, None, IfSome, Bor, inl, inr, sym, ap}
use Rattle.std.proofs.Common.{subst, arith}
use Rattle.std.proofs.lemmas.List.{take_more}
use Rattle.std.proofs.lemmas.List.Elements.{Contains-append_left, Contains-push}
use Rattle.std.proofs.lemmas.List.Elements.{Contains-push_cases}
use Rattle.std.proofs.lemmas.Option.{same_Some}
use Rattle.it_docs.specs.declared.policy.Builder.{Builder}
use Rattle.it_prov.specs.Best.{IsGreatest}
use Rattle.it_prov_notes.specs.inside.Judged.{HasLevel}

module _ (id : List ℕ) (before : List (Bor Builder)) (b : Bor Builder) where
  -- a level of those before is one of all
  still : (n : ℕ) → HasLevel before id n → HasLevel (before ++ b ∷ []) id n
  still n h = (h.0, Contains-append_left before (b ∷ []) h.0 h.1, h.2, h.3)

  -- a level of all is one of those before, or that of the last one, where it has the id
  parts : (n : ℕ) → HasLevel (before ++ b ∷ []) id n
      → HasLevel before id n ⊎ ((b.now.id ≡ id) × (n ≡ b.now.level))
  parts n h = elim (Contains-push_cases before b h.0 h.1) [
    | inl earlier ↦ inl (h.0, earlier, h.2, h.3)
    | inr same ↦ inr (
      ap (λ (x : Bor Builder). x.now.id) same ∙ h.2,
      h.3 ∙ ap (λ (x : Bor Builder). x.now.level) (sym same),
    )
  ]

  lower_last : (best : Option ℕ) → IsGreatest (HasLevel before id) best → ¬ (b.now.id ≡ id)
      → IsGreatest (HasLevel (before ++ b ∷ []) id) best
  lower_last None none other = λ n h. elim (parts n h) [
    | inl earlier ↦ none n earlier
    | inr last ↦ other last.0
  ]
  lower_last (Some m) best other = (
    still m best.0,
    λ n h. elim (parts n h) [
      | inl earlier ↦ best.1 n earlier
      | inr last ↦ absurd (other last.0)
    ],
  )

  higher_last : (best : Option ℕ) → IsGreatest (HasLevel before id) best → (m : ℕ)
      → b.now.id ≡ id → (m ≡ b.now.level) ⊎ (best ≡ Some m) → b.now.level ≤ m
      → IfSome best (λ n. n ≤ m) → IsGreatest (HasLevel (before ++ b ∷ []) id) (Some m)
  higher_last None none m same one level found = (
    elim one [
      | inl is ↦ (b, Contains-push before b, same, is)
      | inr is ↦ absurd (cc is)
    ],
    λ n h. elim (parts n h) [
      | inl earlier ↦ absurd (none n earlier)
      | inr last ↦ omega (arith, last.1, level)
    ],
  )
  higher_last (Some k) best m same one level found = (
    elim one [
      | inl is ↦ (b, Contains-push before b, same, is)
      | inr is ↦ still m (subst (HasLevel before id) (same_Some k m is) best.0)
    ],
    λ n h. elim (parts n h) [
      | inl earlier ↦ omega (arith, best.1 n earlier, found)
      | inr last ↦ omega (arith, last.1, level)
    ],
  )

module _ (id : List ℕ) (xs : List (Bor Builder)) (i : ℕ) (b : Bor Builder) (below : i < length xs)
    (here : b ≡ get_or xs i b) (best : Option ℕ)
    (before : IsGreatest (HasLevel (take i xs) id) best) where
  more : take (i + 1) xs ≡ take i xs ++ b ∷ []
  more = take_more xs i b below ∙ ap (λ y. take i xs ++ y ∷ []) (sym here)

  -- one builder more, of another id
  pub lower_more : ¬ (b.now.id ≡ id) → IsGreatest (HasLevel (take (i + 1) xs) id) best
  lower_more other = subst (λ ys. IsGreatest (HasLevel ys id) best) (sym more)
      (lower_last id (take i xs) b best before other)

  -- one builder more, of the id
  pub higher_more : (m : ℕ) → b.now.id ≡ id → (m ≡ b.now.level) ⊎ (best ≡ Some m)
      → b.now.level ≤ m → IfSome best (λ n. n ≤ m)
      → IsGreatest (HasLevel (take (i + 1) xs) id) (Some m)
  higher_more m same one level found =
      subst (λ ys. IsGreatest (HasLevel ys id) (Some m)) (sym more)
      (higher_last id (take i xs) b best before m same one level found)
