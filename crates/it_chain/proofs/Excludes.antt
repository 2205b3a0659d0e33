-- A layout that holds has no failure: of one level with its sublayouts' given, and then of every
-- depth.
use Rattle.std.proofs.Common.{ℕ, zero, suc, List, [], ◌∷◌, map, flat_map, ⊎_elim}
use Rattle.std.specs.List.{AllZip}
use Rattle.std.specs.FinMap.{keys}
use Rattle.it_base.specs.Places.{NoneAt}
use Rattle.it_base.proofs.Firsts.{none_append, none_first, none_map}
use Rattle.it_docs.specs.declared.layout.Layout.{Layout}
use Rattle.it_docs.specs.declared.step.Step.{Step}
use Rattle.it_docs.specs.declared.rule.Side.TheVariants.{Materials, Products}
use Rattle.it_chain.specs.Chain.{Chain, none_holds}
use Rattle.it_chain.specs.Contents.{Contents}
use Rattle.it_chain.specs.CountedBodies.{Setting}
use Rattle.it_chain.specs.First.{Failing, at_id, at_threshold, at_records, step_places, rule_places}
use Rattle.it_chain.specs.First.{places, StandsInChain, LevelFails, FirstChainFailure, too_deep}
use Rattle.it_chain.specs.First.{uninspected}
use Rattle.it_chain.specs.Level.{Holding, StepHolds, LevelHolds}
use Rattle.it_chain.specs.declared.chain.StepResult.{StepResult}
use Rattle.it_chain.specs.declared.refusal.ChainRefusal.{ChainRefusal}
use Rattle.it_chain.proofs.Levels.{HoldsOneWay, HoldsOrFails, level_one, no_two, no_failing, no_few}
use Rattle.it_chain.proofs.Levels.{no_other, no_rules}

module _ (sub : Holding) (fails : Failing) (one : HoldsOneWay sub) (apart : HoldsOrFails sub fails)
    (setting : Setting) (layout : Layout) (bundle : Contents) where
  none_of_step : (step : Step) (r : StepResult) → StepHolds sub setting layout bundle step r
      → NoneAt (StandsInChain sub fails setting layout bundle) (step_places layout step)
  none_of_step step r h =
      none_append (StandsInChain sub fails setting layout bundle)
      (map (at_id step) (keys layout.keys)) (at_threshold step ∷ at_records step ∷ [])
      (none_map (StandsInChain sub fails setting layout bundle) (at_id step) (keys layout.keys)
      (λ id refusal. ⊎_elim (λ x. no_two sub one setting bundle fails apart layout step r h id x.0)
      (no_failing sub one setting bundle fails apart layout step r h id refusal))) (
        λ refusal x. no_few sub one setting bundle fails apart layout step r h x.0 x.1,
        (λ refusal x. no_other sub one setting bundle fails apart layout step r h x.0 x.1, tt),
      )

  none_of_steps : (steps : List Step) (rs : List StepResult)
      → AllZip (StepHolds sub setting layout bundle) steps rs
      → NoneAt (StandsInChain sub fails setting layout bundle) (flat_map (step_places layout) steps)
  none_of_steps [] rs h = tt
  none_of_steps (s ∷ ss) [] h = absurd h
  none_of_steps (s ∷ ss) (r ∷ rs) h =
      none_append (StandsInChain sub fails setting layout bundle) (step_places layout s)
      (flat_map (step_places layout) ss) (none_of_step s r h.0) (none_of_steps ss rs h.1)

  none_of_rules : (m : List StepResult) → LevelHolds sub setting layout bundle m
      → (steps : List Step) → NoneAt (StandsInChain sub fails setting layout bundle)
      (flat_map rule_places steps)
  none_of_rules m h [] = tt
  none_of_rules m h (s ∷ ss) = (
    λ refusal x. no_rules sub one setting bundle fails apart layout m h s Materials x.0 x.1 x.2,
    (
      λ refusal x. no_rules sub one setting bundle fails apart layout m h s Products x.0 x.1 x.2,
      none_of_rules m h ss,
    ),
  )

  -- nothing stands at the places of a layout that holds
  pub none_of_level : (m : List StepResult) → LevelHolds sub setting layout bundle m
      → NoneAt (StandsInChain sub fails setting layout bundle) (places layout)
  none_of_level m h = (
    λ r x. h.unexpired x.0,
    none_append (StandsInChain sub fails setting layout bundle)
        (flat_map (step_places layout) layout.steps) (flat_map rule_places layout.steps)
        (none_of_steps layout.steps m h.steps) (none_of_rules m h layout.steps),
  )

  pub level_excludes : (m : List StepResult) (refusal : ChainRefusal)
      → LevelHolds sub setting layout bundle m
      → ¬ LevelFails sub fails setting layout bundle refusal
  level_excludes m refusal h = none_first (StandsInChain sub fails setting layout bundle)
      (places layout) refusal (none_of_level m h)

pub none_one : HoldsOneWay none_holds
none_one layout bundle m n h k = absurd h

pub chain_one : (setting : Setting) (depth : ℕ) → HoldsOneWay (Chain setting depth)
chain_one setting zero layout bundle m n = level_one none_holds none_one setting bundle layout m n
chain_one setting (suc depth) layout bundle m n =
    level_one (Chain setting depth) (chain_one setting depth) setting bundle layout m n

pub uninspected_apart : (sub : Holding) (fails : Failing)
    → ((layout : Layout) (bundle : Contents) (m : List StepResult) (refusal : ChainRefusal)
    → sub layout bundle m → ¬ fails layout bundle refusal)
    → HoldsOrFails sub (uninspected fails)
uninspected_apart sub fails apart layout bundle m refusal bare h k =
    ⊎_elim (λ x. x.0 bare) (λ x. apart layout bundle m refusal h x.1) k

pub chain_excludes : (setting : Setting) (depth : ℕ) (layout : Layout) (bundle : Contents)
    (m : List StepResult) (refusal : ChainRefusal) → Chain setting depth layout bundle m
    → ¬ FirstChainFailure setting depth layout bundle refusal
chain_excludes setting zero layout bundle m refusal =
    level_excludes none_holds too_deep none_one (λ l b n r bare h k. h) setting layout bundle m
    refusal
chain_excludes setting (suc depth) layout bundle m refusal =
    level_excludes (Chain setting depth) (uninspected (FirstChainFailure setting depth))
    (chain_one setting depth)
    (uninspected_apart (Chain setting depth) (FirstChainFailure setting depth)
    (chain_excludes setting depth)) setting layout bundle m refusal
