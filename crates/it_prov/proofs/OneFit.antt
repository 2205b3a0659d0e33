-- At most one expectation fits a path.
use Rattle.std.proofs.Common.{◌≡◌, ℕ, List, [], ◌∷◌, ◌++◌, Contains, sym, subst, ◌∙◌}
use Rattle.it_base.proofs.Members.{head_same, in_head, in_tail, tail_same}
use Rattle.it_docs.specs.declared.policy.Expectation.{Expectation}
use Rattle.it_prov.specs.Fits.{SpeaksOf, Fits}

module _ {X : Type 0} where
  -- the first element of which P holds is one
  same_first : (P : X → Type 0) (front other rest more : List X) (a b : X) → front
      ++ a ∷ rest ≡ other ++ b ∷ more → P a → P b
      → ((x : X) → Contains front x → ¬ P x) → ((x : X) → Contains other x → ¬ P x) → a ≡ b
  same_first P [] [] rest more a b e p q none others = head_same a b rest more e
  same_first P [] (y ∷ other) rest more a b e p q none others =
      absurd (others y (in_head y other) (subst P (head_same a y rest (other ++ b ∷ more) e) p))
  same_first P (x ∷ front) [] rest more a b e p q none others =
      absurd (none x (in_head x front) (subst P (sym (head_same x b (front ++ a ∷ rest) more e)) q))
  same_first P (x ∷ front) (y ∷ other) rest more a b e p q none others =
      same_first P front other rest more a b
      (tail_same x y (front ++ a ∷ rest) (other ++ b ∷ more) e) p q
      (λ z c. none z (in_tail x front z c)) (λ z c. others z (in_tail y other z c))

pub fits_one : (expectations : List Expectation) (path : List ℕ) (a b : Expectation)
    → Fits expectations path a → Fits expectations path b → a ≡ b
fits_one expectations path a b h k = same_first (SpeaksOf path) h.front k.front h.rest k.rest a b
    (sym h.they_are ∙ k.they_are) h.speaks k.speaks h.none_before k.none_before

-- what is so of an expectation that fits is so of each that does
pub of_each_fit : (P : Expectation → Type 0) (expectations : List Expectation) (path : List ℕ)
    (found : Expectation) → Fits expectations path found → P found → (expectation : Expectation)
    → Fits expectations path expectation → P expectation
of_each_fit P expectations path found fits p expectation other =
    subst P (fits_one expectations path found expectation fits other) p
