-- Ids that rise.
use Rattle.std.proofs.Common.{◌≡◌, ◌∷◌, [], ℕ, List, Contains, Less, map, nat_cmp, sym, subst, T}
use Rattle.std.proofs.Common.{⊎_elim}
use Rattle.std.specs.Cmp.Lexicographic.{slice_cmp}
use Rattle.std.specs.FinMap.{is_sorted}
use Rattle.std.specs.List.{AllByRecursion}
use Rattle.std.specs.List.Sorted.{IsStrictlySortedBy}
use Rattle.it_base.proofs.Members.{in_head, in_tail}
use Rattle.it_dsse.specs.Signed.{AreThose}
use Rattle.it_chain.specs.First.{IsBefore}
use Rattle.it_chain.proofs.ClaimedFiles.{of_those}
use Rattle.it_chain.proofs.Entries.{first_below, order}
use Rattle.it_chain.proofs.SignerLists.{Rises}

module _ {X : Type 0} where
  -- those of a list whose ids rise
  pub rises_those : (P : List ℕ × X → Type 0) (xs kept : List (List ℕ × X)) → Rises xs
      → AreThose P xs kept → Rises kept
  rises_those P [] kept rises are =
      subst (λ (es : List (List ℕ × X)). Rises es) (sym are) tt
  rises_those P (x ∷ xs) kept rises are = ⊎_elim
      (λ k. subst (λ (es : List (List ℕ × X)). Rises es) (sym k.1.1) (
        λ f c. rises.0 f ((of_those P xs k.1.0 k.1.2 f c).0),
        rises_those P xs k.1.0 rises.1 k.1.2,
      ))
      (λ k. rises_those P xs kept rises.1 k.1) are

  before_each : (id : List ℕ) (es : List (List ℕ × X))
      → ((f : List ℕ × X) → Contains es f → IsBefore id f.0)
      → AllByRecursion (λ t. slice_cmp nat_cmp id t ≡ Less) (map (λ (e : List ℕ × X). e.0) es)
  before_each id [] h = tt
  before_each id (e ∷ es) h =
      (h e (in_head e es), before_each id es (λ f c. h f (in_tail e es f c)))

  pub ids_rise : (es : List (List ℕ × X)) → Rises es
      → IsStrictlySortedBy (slice_cmp nat_cmp) (map (λ (e : List ℕ × X). e.0) es)
  unfolding IsStrictlySortedBy
  ids_rise [] rises = tt
  ids_rise (e ∷ es) rises = (before_each e.0 es rises.0, ids_rise es rises.1)

  -- the ids of a map's entries rise
  pub rises_all : (es : List (List ℕ × X)) → T (is_sorted order es) → Rises es
  rises_all [] sorted = tt
  rises_all (e ∷ es) sorted =
      let parts = first_below e es sorted in (parts.0, rises_all es parts.1)
