-- What one level comes to, as the deciding functions answer, its sublayouts' answers given.
use Rattle.std.proofs.Common.{ℕ, ◌<ℤ◌, List, [], ◌∷◌, ◌++◌, map, flat_map, zip, Option, Some, None}
use Rattle.std.proofs.Common.{Ok, Err, inl, int_lt, Contains, refl, arith}
use Rattle.std.specs.FinMap.{keys}
use Rattle.std.specs.List.{AllZip}
use Rattle.std.proofs.lemmas.Bool.{cond_both}
use Rattle.std.proofs.lemmas.Int.{ints}
use Rattle.it_docs.specs.declared.layout.Layout.{Layout}
use Rattle.it_docs.specs.declared.step.Step.{Step}
use Rattle.it_docs.specs.declared.rule.Side.{Side}
use Rattle.it_docs.specs.declared.rule.Side.TheVariants.{Materials, Products}
use Rattle.it_rules.specs.Rules.{NamesDiffer, RulesHold}
use Rattle.it_chain.specs.Answer.{◌>>=◌, Answering, fault_answer, ids_answer, judged, level_answer}
use Rattle.it_chain.specs.Answer.{rules_answer, side_answer, signers, step_answer, steps_answer}
use Rattle.it_chain.specs.Contents.{Contents}
use Rattle.it_chain.specs.CountedBodies.{Setting}
use Rattle.it_chain.specs.First.{Failing, ChainPlace, at_expiry, at_id, at_threshold, at_records}
use Rattle.it_chain.specs.First.{at_rules, step_places, rule_places, places, StandsInChain, here}
use Rattle.it_chain.specs.Level.{Holding, StepHolds, LevelHolds}
use Rattle.it_chain.specs.StepRules.{StepRulesHold, links_in, recorded_in, rules_on}
use Rattle.it_chain.specs.Lower.{Lower, AnswersRight, IsFaultOf}
use Rattle.it_chain.specs.declared.chain.StepResult.{StepResult}
use Rattle.it_chain.specs.inside.IdRecords.{AreRecords}
use Rattle.it_chain.specs.declared.refusal.ChainFault.TheVariants.{Expired}
use Rattle.it_chain.specs.declared.refusal.ChainRefusal.{ChainRefusal}
use Rattle.it_chain.proofs.Ids.{Sublayouts}
use Rattle.it_chain.proofs.Judging.{tells_judged}
use Rattle.it_chain.proofs.LevelRules.{links_differ, no_rule_fails}
use Rattle.it_chain.proofs.Members.{in_head, in_tail}
use Rattle.it_chain.proofs.Outcomes.{Tells, tells_behind, tells_then, tells_made, tells_weaker}
use Rattle.it_chain.proofs.Records.{tells_records}

module _ (lower : Lower) (right : AnswersRight lower) (setting : Setting) (layout : Layout)
    (bundle : Contents) (answers : Answering) (sub : Holding) (fails : Failing)
    (inside : Sublayouts answers sub fails) where
  abbrev At : ChainPlace → ChainRefusal → Type 0
  At = StandsInChain sub fails setting layout bundle

  abbrev HoldsStep : Step → StepResult → Type 0
  HoldsStep = StepHolds sub setting layout bundle

  -- ---- the steps
  tells_step : (step : Step) → Tells At (step_places layout step) (HoldsStep step)
      (step_answer lower setting answers layout bundle step)
  unfolding step_answer
  tells_step step =
      tells_then At (map (at_id step) (keys layout.keys)) (at_threshold step ∷ at_records step ∷ [])
      (AreRecords sub setting layout bundle step) (HoldsStep step)
      (ids_answer lower setting answers layout bundle step (signers layout step))
      (judged lower setting answers layout bundle step)
      (tells_records lower right setting layout bundle answers sub fails inside step)
      (λ records none are. tells_judged sub fails inside.one setting layout bundle step records are
      lower right answers)

  tells_steps : (steps : List Step) → Tells At (flat_map (step_places layout) steps)
      (AllZip HoldsStep steps) (steps_answer lower setting answers layout bundle steps)
  tells_steps [] = (tt, tt)
  tells_steps (s ∷ ss) =
      tells_then At (step_places layout s) (flat_map (step_places layout) ss) (HoldsStep s)
      (AllZip HoldsStep (s ∷ ss)) (step_answer lower setting answers layout bundle s) _
      (tells_step s)
      (λ result none holds. tells_made At (flat_map (step_places layout) ss) (AllZip HoldsStep ss)
      (AllZip HoldsStep (s ∷ ss)) (steps_answer lower setting answers layout bundle ss)
      (λ results. result ∷ results)
      (tells_steps ss) (λ results none' rest. (holds, rest)))

  -- ---- the rules, over the records with which the steps hold
  module _ (m : List StepResult) (holds : AllZip HoldsStep layout.steps m)
      (differ : NamesDiffer (links_in m)) where
    tells_fault : (step : Step) (result : StepResult) (side : Side) → Contains (zip layout.steps m)
        (step, result) → (fault : Option (ℕ × List ℕ))
        → IsFaultOf (rules_on side step) side (recorded_in result) (links_in m) fault
        → Tells At (at_rules step side ∷ [])
        (λ _. RulesHold (rules_on side step) side (recorded_in result) (links_in m))
        (fault_answer step side fault)
    tells_fault step result side c None rules = (
      (
        no_rule_fails sub fails inside.one setting layout bundle m holds step result side c rules,
        tt,
      ),
      rules,
    )
    tells_fault step result side c (Some fault) first = inl (
      fault.0,
      fault.1,
      record {
        results = m;
        result = result;
        steps = holds;
        of_step = c;
        fault = first;
      },
      refl,
    )

    tells_side : (step : Step) (result : StepResult) (side : Side) → Contains (zip layout.steps m)
        (step, result)
        → Tells At (at_rules step side ∷ [])
        (λ _. RulesHold (rules_on side step) side (recorded_in result) (links_in m))
        (side_answer lower setting (links_in m) step result side)
    unfolding side_answer
    tells_side step result side c =
        tells_fault step result side c
        (lower.fault_of (rules_on side step) side (recorded_in result) (links_in m))
        (right.fault (rules_on side step) side (recorded_in result) (links_in m) differ)

    tells_rules : (ss : List Step) (rs : List StepResult) → AllZip HoldsStep ss rs
        → ((step : Step) (result : StepResult) → Contains (zip ss rs) (step, result)
        → Contains (zip layout.steps m) (step, result))
        → Tells At (flat_map rule_places ss) (λ _. AllZip (StepRulesHold (links_in m)) ss rs)
        (rules_answer lower setting (links_in m) ss rs)
    tells_rules [] [] h pairs = (tt, tt)
    tells_rules [] (r ∷ rs) h pairs = absurd h
    tells_rules (s ∷ ss) [] h pairs = absurd h
    tells_rules (s ∷ ss) (r ∷ rs) h pairs =
        let pair = pairs s r (in_head (s, r) (zip ss rs)) in
        let H = λ (x : Unit {0}). AllZip (StepRulesHold (links_in m)) (s ∷ ss) (r ∷ rs) in
        tells_then At (at_rules s Materials ∷ []) (at_rules s Products ∷ flat_map rule_places ss)
        (λ _. RulesHold (rules_on Materials s) Materials (recorded_in r) (links_in m)) H
        (side_answer lower setting (links_in m) s r Materials) _ (tells_side s r Materials pair)
        (λ x none materials. tells_then At (at_rules s Products ∷ []) (flat_map rule_places ss)
        (λ _. RulesHold (rules_on Products s) Products (recorded_in r) (links_in m)) H
        (side_answer lower setting (links_in m) s r Products) _ (tells_side s r Products pair)
        (λ y none' products. tells_weaker At (flat_map rule_places ss)
        (λ _. AllZip (StepRulesHold (links_in m)) ss rs) H
        (rules_answer lower setting (links_in m) ss rs)
        (λ z rest. (record { materials = materials; products = products }, rest))
        (tells_rules ss rs h.1 (λ t q c. pairs t q (in_tail (s, r) (zip ss rs) (t, q) c)))))

  -- ---- the level
  -- the layout holds of the bundle, or fails
  pub tells_level : Tells At (places layout) (LevelHolds sub setting layout bundle)
      (level_answer lower setting answers layout bundle)
  unfolding level_answer
  tells_level =
      cond_both (int_lt layout.expires setting.moment) (Err (here Expired))
      (steps_answer lower setting answers layout bundle layout.steps
      >>= (λ results. rules_answer lower setting (links_in results) layout.steps results
      >>= (λ _. Ok results)))
      (Tells At (places layout) (LevelHolds sub setting layout bundle))
      (λ expired. inl (omega (arith, ints, expired), refl))
      (λ in_time. let unexpired : ¬ (layout.expires <ℤ setting.moment) = λ late. absurd
      (omega (arith, ints, late, in_time)) in
      tells_behind At (at_expiry ∷ []) (flat_map (step_places layout) layout.steps
      ++ flat_map rule_places layout.steps) (LevelHolds sub setting layout bundle) _
      (λ refusal x. unexpired x.0, tt)
      (tells_then At (flat_map (step_places layout) layout.steps)
      (flat_map rule_places layout.steps) (AllZip HoldsStep layout.steps)
      (LevelHolds sub setting layout bundle)
      (steps_answer lower setting answers layout bundle layout.steps) _ (tells_steps layout.steps)
      (λ m none holds. tells_made At (flat_map rule_places layout.steps)
      (λ _. AllZip (StepRulesHold (links_in m)) layout.steps m)
      (LevelHolds sub setting layout bundle)
      (rules_answer lower setting (links_in m) layout.steps m) (λ _. m)
      (tells_rules m holds (links_differ sub fails inside.one setting layout bundle m holds)
      layout.steps m holds (λ s r c. c))
      (λ _ none' rules. record { unexpired = unexpired; steps = holds; rules = rules }))))
