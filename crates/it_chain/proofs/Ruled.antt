-- How the rules of pairs of steps and records are judged, one pair after the other.
use Rattle.std.proofs.Common.{◌≡◌, ◌⊎◌, List, [], ◌∷◌, ◌++◌, zip, length, inl, inr, ⊎_elim}
use Rattle.std.proofs.Common.{refl, sym, subst, arith}
use Rattle.std.specs.List.{AllByRecursion}
use Rattle.it_docs.specs.declared.step.Step.{Step}
use Rattle.it_docs.specs.declared.rule.Side.TheVariants.{Materials, Products}
use Rattle.it_rules.specs.Item.{Links}
use Rattle.it_chain.specs.StepRules.{StepRulesHold}
use Rattle.it_chain.specs.inside.StepRules.{IsFirstRuled, SideFails, SideHolds}
use Rattle.it_chain.specs.declared.chain.StepResult.{StepResult}
use Rattle.it_chain.specs.declared.refusal.ChainRefusal.{ChainRefusal}

pub zip_over : (ss : List Step) (rs : List StepResult) → (length ss ≡ 0) ⊎ (length rs ≡ 0)
    → zip ss rs ≡ []
zip_over [] rs h = refl
zip_over (s ∷ ss) [] h = refl
zip_over (s ∷ ss) (r ∷ rs) h = absurd (⊎_elim (λ e. omega (arith, e)) (λ e. omega (arith, e)) h)

module _ (links : Links) where
  abbrev pub Hold : List (Step × StepResult) → Type 0
  Hold = AllByRecursion (λ p. StepRulesHold links p.0 p.1)

  pub holds_more : (done : List (Step × StepResult)) (p : Step × StepResult) → Hold done
      → StepRulesHold links p.0 p.1 → Hold (done ++ p ∷ [])
  holds_more [] p h last = (last, tt)
  holds_more (d ∷ done) p h last = (h.0, holds_more done p h.1 last)

  first_behind : (done rest : List (Step × StepResult)) (r : ChainRefusal) → Hold done
      → IsFirstRuled links rest r → IsFirstRuled links (done ++ rest) r
  first_behind [] rest r h first = first
  first_behind (d ∷ done) rest r h first =
      inr (h.0.materials, inr (h.0.products, first_behind done rest r h.1 first))

  pub materials_fail : (pairs done rest : List (Step × StepResult)) (p : Step × StepResult)
      (r : ChainRefusal) → pairs ≡ done ++ p ∷ rest → Hold done → SideFails links p.0 Materials p.1 r
      → IsFirstRuled links pairs r
  materials_fail pairs done rest p r all h fails = subst (λ ps. IsFirstRuled links ps r)
      (sym all) (first_behind done (p ∷ rest) r h (inl fails))

  pub products_fail : (pairs done rest : List (Step × StepResult)) (p : Step × StepResult)
      (r : ChainRefusal) → pairs ≡ done ++ p ∷ rest → Hold done → SideHolds links p.0 Materials p.1
      → SideFails links p.0 Products p.1 r → IsFirstRuled links pairs r
  products_fail pairs done rest p r all h materials fails =
      subst (λ ps. IsFirstRuled links ps r) (sym all)
      (first_behind done (p ∷ rest) r h (inr (materials, inl fails)))
