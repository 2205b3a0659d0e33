-- The deciding function answers what a layout over a bundle comes to, at every depth.
use Rattle.std.proofs.Common.{◌≡◌, ◌≢◌, ◌⊎◌, ℕ, zero, suc, List, [], ◌∷◌, Result, Ok, Err}
use Rattle.std.proofs.Common.{MatchResult, inl, inr, length, refl, sym, ap, ◌∙◌, arith}
use Rattle.it_docs.specs.declared.step.Inspection.{Inspection}
use Rattle.it_docs.specs.declared.layout.Layout.{Layout}
use Rattle.it_chain.specs.Answer.{Answering, answer, level_answer, no_deeper, unless_inspected}
use Rattle.it_chain.specs.Chain.{Chain, none_holds}
use Rattle.it_chain.specs.Contents.{Contents}
use Rattle.it_chain.specs.CountedBodies.{Setting}
use Rattle.it_chain.specs.First.{Failing, FirstChainFailure, LevelFails, places, StandsInChain}
use Rattle.it_chain.specs.First.{too_deep, uninspected}
use Rattle.it_chain.specs.Level.{Holding, LevelHolds}
use Rattle.it_chain.specs.Lower.{Lower, AnswersRight}
use Rattle.it_chain.specs.declared.chain.StepResult.{StepResult}
use Rattle.it_chain.specs.declared.refusal.ChainRefusal.{ChainRefusal}
use Rattle.it_chain.proofs.Decided.{the_lower, the_lower-right}
use Rattle.it_chain.proofs.Excludes.{chain_excludes, chain_one, none_one, uninspected_apart}
use Rattle.it_chain.proofs.Ids.{ComesTo, Sublayouts}
use Rattle.it_chain.proofs.LevelAnswers.{tells_level}
use Rattle.it_chain.proofs.Outcomes.{Tells}

-- what is answered holds or fails
abbrev IsRight : Holding → Failing → Answering → Type 0
IsRight sub fails answers = (layout : Layout) (bundle : Contents)
    → MatchResult (answers layout bundle) (sub layout bundle) (fails layout bundle)

outcome : (sub : Holding) (fails : Failing) (setting : Setting) (layout : Layout)
    (bundle : Contents) (a : Result (List StepResult) ChainRefusal)
    → Tells (StandsInChain sub fails setting layout bundle) (places layout)
    (LevelHolds sub setting layout bundle) a
    → MatchResult a (LevelHolds sub setting layout bundle)
    (LevelFails sub fails setting layout bundle)
outcome sub fails setting layout bundle (Ok m) h = h.1
outcome sub fails setting layout bundle (Err refusal) h = h

level_right : (lower : Lower) → AnswersRight lower → (setting : Setting) (answers : Answering)
    (sub : Holding) (fails : Failing) → Sublayouts answers sub fails
    → IsRight (LevelHolds sub setting) (LevelFails sub fails setting)
    (level_answer lower setting answers)
level_right lower right setting answers sub fails inside layout bundle =
    outcome sub fails setting layout bundle (level_answer lower setting answers layout bundle)
    (tells_level lower right setting layout bundle answers sub fails inside)

-- ---- sublayouts
none_inside : Sublayouts no_deeper none_holds too_deep
none_inside = record {
  come = λ layout bundle. refl;
  one = none_one;
  apart = λ layout bundle m refusal bare h k. h;
}

not_empty : {X : Type 0} (x : X) (xs : List X) → (x ∷ xs) ≢ []
not_empty x xs same = let none : length (x ∷ xs) ≡ 0 = ap length same in
    absurd (omega (arith, none))

sublayout_comes : (sub : Holding) (fails : Failing) (layout : Layout) (bundle : Contents)
    (inspections : List Inspection) → layout.inspections ≡ inspections
    → (a : Result (List StepResult) ChainRefusal)
    → MatchResult a (sub layout bundle) (fails layout bundle)
    → ComesTo sub (uninspected fails) layout bundle (unless_inspected inspections a)
sublayout_comes sub fails layout bundle [] bare (Ok m) h = (bare, h)
sublayout_comes sub fails layout bundle [] bare (Err refusal) h = inr (bare, h)
sublayout_comes sub fails layout bundle (x ∷ xs) some a h =
    inl (λ none. not_empty x xs (sym some ∙ none), refl)

inside : (lower : Lower) (setting : Setting) (depth : ℕ) → IsRight (Chain setting depth)
    (FirstChainFailure setting depth) (answer lower setting depth)
    → Sublayouts (λ layout bundle. unless_inspected layout.inspections
    (answer lower setting depth layout bundle)) (Chain setting depth)
    (uninspected (FirstChainFailure setting depth))
inside lower setting depth right = record {
  come = λ layout bundle. sublayout_comes (Chain setting depth) (FirstChainFailure setting depth)
      layout bundle layout.inspections refl (answer lower setting depth layout bundle)
      (right layout bundle);
  one = chain_one setting depth;
  apart = uninspected_apart (Chain setting depth) (FirstChainFailure setting depth)
      (chain_excludes setting depth);
}

-- every depth
pub answer_right : (lower : Lower) → AnswersRight lower → (setting : Setting) (depth : ℕ)
    → IsRight (Chain setting depth) (FirstChainFailure setting depth) (answer lower setting depth)
unfolding answer
answer_right lower right setting zero =
    level_right lower right setting no_deeper none_holds too_deep none_inside
answer_right lower right setting (suc depth) =
    level_right lower right setting _ (Chain setting depth)
    (uninspected (FirstChainFailure setting depth))
    (inside lower setting depth (answer_right lower right setting depth))

either_way : {A E : Type 0} {P : A → Type 0} {Q : E → Type 0} (r : Result A E) → MatchResult r P Q
    → ((x : A) × P x) ⊎ ((e : E) × Q e)
either_way (Ok x) h = inl (x, h)
either_way (Err e) h = inr (e, h)

-- one of the two always is so
pub holds_or_fails : (setting : Setting) (depth : ℕ) (layout : Layout) (bundle : Contents)
    → ((m : List StepResult) × Chain setting depth layout bundle m)
    ⊎ ((refusal : ChainRefusal) × FirstChainFailure setting depth layout bundle refusal)
holds_or_fails setting depth layout bundle =
    either_way (answer the_lower setting depth layout bundle)
    (answer_right the_lower the_lower-right setting depth layout bundle)
