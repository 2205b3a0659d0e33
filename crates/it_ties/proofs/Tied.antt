-- Whether a path is tied, one rule after another.
use Rattle.std.proofs.Common.{◌≡◌, ℕ, zero, suc, ◌<◌, List, [], ◌∷◌, Some, refl, sym}
use Rattle.std.proofs.Common.{subst, arith}
use Rattle.std.specs.List.{slice_get}
use Rattle.it_docs.specs.declared.rule.Rule.{Rule}
use Rattle.it_docs.specs.declared.rule.Side.TheVariants.{Products}
use Rattle.it_docs.specs.declared.step.Step.{Step}
use Rattle.it_rules.specs.Item.{Links, Recorded}
use Rattle.it_rules.specs.Rules.{Claims, Stands}
use Rattle.it_ties.specs.Ties.{IsTied, Ties}

module _ (steps : List Step) (item : Recorded) (links : Links) (path : List ℕ) where
  -- no rule ties
  pub none_ties : ¬ IsTied steps [] item links path
  none_ties tied = cc (tied.stands)

  module _ (rule : Rule) (later : List Rule) where
    -- the rule at a place of the list is the first rule, or a later one
    first_is : (other : Rule) → slice_get (rule ∷ later) zero ≡ Some other → rule ≡ other
    first_is other here = cc here

    -- the first rule claims the path
    module _ (claimed : Claims rule Products item links path) where
      pub first_ties : Stands item.products path → Ties steps rule
          → IsTied steps (rule ∷ later) item links path
      first_ties stands ties = record {
        place = 0;
        rule = rule;
        stands = refl;
        ties = ties;
        is_free = record {
          stands = stands;
          unclaimed = λ j other below at. absurd (omega arith);
        };
        claims = claimed;
      }

      pub tied_by_first : IsTied steps (rule ∷ later) item links path → Ties steps rule
      tied_by_first tied = go tied.place refl
        where
          go : (place : ℕ) → tied.place ≡ place → Ties steps rule
          go zero at = subst (Ties steps) (sym (first_is tied.rule
              (subst (λ p. slice_get (rule ∷ later) p ≡ Some tied.rule) at tied.stands))) tied.ties
          go (suc place) at = absurd
              (tied.is_free.unclaimed 0 rule (omega (arith, at)) refl claimed)

    -- the first rule does not claim it
    module _ (unclaimed : ¬ Claims rule Products item links path) where
      pub later_ties : IsTied steps later item links path
          → IsTied steps (rule ∷ later) item links path
      later_ties tied = record {
        place = suc tied.place;
        rule = tied.rule;
        stands = tied.stands;
        ties = tied.ties;
        is_free = record {
          stands = tied.is_free.stands;
          unclaimed = before;
        };
        claims = tied.claims;
      }
        where
          before : (j : ℕ) (other : Rule) → j < suc tied.place
              → slice_get (rule ∷ later) j ≡ Some other → ¬ Claims other Products item links path
          before zero other below at = subst (λ r. ¬ Claims r Products item links path)
              (first_is other at) unclaimed
          before (suc j) other below at = tied.is_free.unclaimed j other (omega (arith, below)) at

      pub tied_later : IsTied steps (rule ∷ later) item links path
          → IsTied steps later item links path
      tied_later tied = go tied.place refl
        where
          go : (place : ℕ) → tied.place ≡ place → IsTied steps later item links path
          go zero at = absurd (unclaimed (subst (λ r. Claims r Products item links path)
              (sym (first_is tied.rule
              (subst (λ p. slice_get (rule ∷ later) p ≡ Some tied.rule) at tied.stands)))
              tied.claims))
          go (suc place) at = record {
            place = place;
            rule = tied.rule;
            stands = subst (λ p. slice_get (rule ∷ later) p ≡ Some tied.rule) at tied.stands;
            ties = tied.ties;
            is_free = record {
              stands = tied.is_free.stands;
              unclaimed = λ j other below here.
                  tied.is_free.unclaimed (suc j) other (omega (arith, below, at)) here;
            };
            claims = tied.claims;
          }
