-- A path is tied to a step, or it is not.
use Rattle.std.proofs.Common.{◌≡◌, ◌⊎◌, inl, inr, ℕ, List, [], ◌∷◌}
use Rattle.std.proofs.Common.{Bool, true, false, Decides, Any, refl}
use Rattle.std.specs.List.{list_any}
use Rattle.std.specs.Str.{bytes_eq}
use Rattle.std.proofs.lemmas.Bool.{false≢true}
use Rattle.std.proofs.lemmas.Bool.Decides.{not_from_Decides}
use Rattle.std.proofs.lemmas.List.Folds.{Any-from_list_any, list_any-from_Any}
use Rattle.std.proofs.lemmas.Slice.Eq.{bytes_eq-Decides}
use Rattle.it_docs.specs.declared.rule.Rule.{Rule}
use Rattle.it_docs.specs.declared.rule.Rule.TheVariants.{Match}
use Rattle.it_docs.specs.declared.rule.Side.TheVariants.{Products}
use Rattle.it_docs.specs.declared.step.Step.{Step}
use Rattle.it_rules.specs.Item.{Links, Recorded}
use Rattle.it_rules.specs.Rules.{Claims, Stands}
use Rattle.it_rules.proofs.ClaimsDecided.{is_claim, is_claim-Decides}
use Rattle.it_ties.specs.Ties.{IsTied, Ties}
use Rattle.it_ties.proofs.Tied.{first_ties, later_ties, none_ties, tied_by_first, tied_later}

-- decides `Ties`
abbrev is_tie : List Step → Rule → Bool
is_tie steps (Match pattern source Products target from) =
    list_any (λ (step : Step). bytes_eq step.name from) steps
is_tie steps rule = false

names_step-Decides : (steps : List Step) (name : List ℕ)
    → Decides (list_any (λ (step : Step). bytes_eq step.name name) steps)
    (Any (λ (step : Step). step.name ≡ name) steps)
names_step-Decides steps name =
    let test = λ (step : Step). bytes_eq step.name name in (
      λ h. let a = Any-from_list_any test steps h in
          (a.0, a.1, a.2, a.3, (bytes_eq-Decides a.1.name name).0 a.4),
      λ a. list_any-from_Any test steps
          (a.0, a.1, a.2, a.3, (bytes_eq-Decides a.1.name name).1 a.4),
    )

is_tie-Decides : (steps : List Step) (rule : Rule) → Decides (is_tie steps rule) (Ties steps rule)
is_tie-Decides steps (Match pattern source Products target from) = names_step-Decides steps from
is_tie-Decides steps rule = (λ h. absurd (false≢true h), λ h. absurd h)

module _ (item : Recorded) (links : Links) (path : List ℕ) (stands : Stands item.products path)
    (steps : List Step) where
  abbrev IsTiedBy : List Rule → Type 0
  IsTiedBy rules = IsTied steps rules item links path

  module _ (rule : Rule) (later : List Rule) where
    by_first : Claims rule Products item links path → (b : Bool) → is_tie steps rule ≡ b
        → IsTiedBy (rule ∷ later) ⊎ ¬ IsTiedBy (rule ∷ later)
    by_first claimed true ties = inl (first_ties steps item links path rule later claimed stands
        ((is_tie-Decides steps rule).0 ties))
    by_first claimed false ties = inr (λ tied.
        not_from_Decides (is_tie steps rule) (is_tie-Decides steps rule) ties
        (tied_by_first steps item links path rule later claimed tied))

    by_later : ¬ Claims rule Products item links path → IsTiedBy later ⊎ ¬ IsTiedBy later
        → IsTiedBy (rule ∷ later) ⊎ ¬ IsTiedBy (rule ∷ later)
    by_later unclaimed (inl tied) = inl (later_ties steps item links path rule later unclaimed tied)
    by_later unclaimed (inr loose) = inr (λ tied.
        loose (tied_later steps item links path rule later unclaimed tied))

    one_more : IsTiedBy later ⊎ ¬ IsTiedBy later → (b : Bool)
        → is_claim rule Products item links path ≡ b
        → IsTiedBy (rule ∷ later) ⊎ ¬ IsTiedBy (rule ∷ later)
    one_more rest true claims = by_first
        ((is_claim-Decides rule Products item links path).0 claims) (is_tie steps rule) refl
    one_more rest false claims = by_later
        (not_from_Decides (is_claim rule Products item links path)
        (is_claim-Decides rule Products item links path) claims) rest

  by_rules : (rules : List Rule) → IsTiedBy rules ⊎ ¬ IsTiedBy rules
  by_rules [] = inr (none_ties steps item links path)
  by_rules (rule ∷ later) =
      one_more rule later (by_rules later) (is_claim rule Products item links path) refl

-- a path of the products is tied, or it is not
pub tied_or_not : (rules : List Rule) (item : Recorded) (links : Links) (path : List ℕ)
    → Stands item.products path → (steps : List Step)
    → IsTied steps rules item links path ⊎ ¬ IsTied steps rules item links path
tied_or_not rules item links path stands steps = by_rules item links path stands steps rules
