-- One more place under a text.
use Rattle.std.proofs.Common.{◌≡◌, ◌⊎◌, ◌++◌, ◌∷◌, [], ℕ, List, Bool, true, false, Option, None}
use Rattle.std.proofs.Common.{Some, Contains, Global, bytes_eq, nat_cmp, ap, sym, subst, refl}
use Rattle.std.proofs.Common.{◌∙◌, inl, inr}
use Rattle.std.specs.BTreeMap.{get_by}
use Rattle.std.specs.Cmp.Lexicographic.{slice_cmp}
use Rattle.std.specs.Option.{UnwrapsOrElse}
use Rattle.std.specs.declared.vec.Vec.{Vec}
use Rattle.std.proofs.lemmas.List.Elements.{Contains-append_left, Contains-push, Contains-push_cases}
use Rattle.std.proofs.lemmas.Option.{same_Some}
use Rattle.std.proofs.lemmas.Slice.Eq.{bytes_eq-Decides}
use Rattle.it_places.specs.Places.{IsPut, IsUnder}
use Rattle.it_places.specs.declared.places.Places.{Places}

abbrev at : List ℕ → Places → Option (Vec ℕ Global)
at text places = get_by (λ key. slice_cmp nat_cmp text key.now) places.by_text

module _ (text : List ℕ) (place : ℕ) (old new : Places) (before after : Vec ℕ Global)
    (Empty : Vec ℕ Global → Type 0) (opened : UnwrapsOrElse (at text old) Empty before)
    (none : (v : Vec ℕ Global) → Empty v → (p : ℕ) → ¬ Contains v.items p)
    (pushed : after.items ≡ before.items ++ place ∷ [])
    (added : at text new ≡ Some after)
    (others : (f : List ℕ) → bytes_eq text f ≡ false → at f new ≡ at f old) where
  before_under : (p : ℕ) → Contains before.items p → (stood : Option (Vec ℕ Global))
      → at text old ≡ stood → UnwrapsOrElse stood Empty before → IsUnder old text p
  before_under p has None is empty = absurd (none before empty p has)
  before_under p has (Some found) is same = record {
    found = found;
    stands = is;
    has = subst (λ (v : Vec ℕ Global). Contains v.items p) same has;
  }

  was_under : (other : List ℕ) (p : ℕ) → IsUnder new other p → (b : Bool) → bytes_eq text other ≡ b
      → IsUnder old other p ⊎ ((other ≡ text) × (p ≡ place))
  was_under other p under true e =
      let same : text ≡ other = (bytes_eq-Decides text other).0 e in
      let known : under.found ≡ after =
      same_Some _ _ (sym under.stands ∙ ap (λ f. at f new) (sym same) ∙ added) in
      let has : Contains (before.items ++ place ∷ []) p = subst (λ xs. Contains xs p) pushed
      (subst (λ (v : Vec ℕ Global). Contains v.items p) known under.has) in
      elim (Contains-push_cases before.items place p has) [
        | inl first ↦ inl (subst (λ f. IsUnder old f p) same
            (before_under p first (at text old) refl opened))
        | inr last ↦ inr (sym same, sym last)
      ]
  was_under other p under false e = inl (record {
    found = under.found;
    stands = sym (others other e) ∙ under.stands;
    has = under.has;
  })

  here : IsUnder new text place
  here = record {
    found = after;
    stands = added;
    has = subst (λ xs. Contains xs place) (sym pushed) (Contains-push before.items place);
  }

  kept : (other : List ℕ) (p : ℕ) → IsUnder old other p → (b : Bool) → bytes_eq text other ≡ b
      → IsUnder new other p
  kept other p under true e =
      let same : text ≡ other = (bytes_eq-Decides text other).0 e in
      let stands : at text old ≡ Some under.found = ap (λ f. at f old) same ∙ under.stands in
      let known : before ≡ under.found =
      subst (λ o. UnwrapsOrElse o Empty before) stands opened in
      record {
        found = after;
        stands = ap (λ f. at f new) (sym same) ∙ added;
        has = subst (λ xs. Contains xs p) (sym pushed)
            (Contains-append_left before.items (place ∷ []) p
            (subst (λ (v : Vec ℕ Global). Contains v.items p) (sym known) under.has));
      }
  kept other p under false e =
      record { found = under.found; stands = others other e ∙ under.stands; has = under.has }

  pub put : IsPut text place old new
  put = λ other p. (
    λ under. was_under other p under (bytes_eq text other) refl,
    λ was. elim was [
      | inl under ↦ kept other p under (bytes_eq text other) refl
      | inr is ↦ subst (λ f. IsUnder new f p) (sym is.0) (subst (IsUnder new text) (sym is.1) here)
    ],
  )
