-- What a level comes to, from its steps and their rules.
use Rattle.std.proofs.Common.{◌≡◌, ◌<ℤ◌, List, [], ◌∷◌, ◌++◌, flat_map, zip, Option, None, Some, inl, inr, ⊎_elim}
use Rattle.std.proofs.Common.{Contains, refl, sym, subst}
use Rattle.std.specs.List.{AllByRecursion, AllZip}
use Rattle.it_base.specs.Places.{IsFirst, NoneAt}
use Rattle.it_docs.specs.declared.layout.Layout.{Layout}
use Rattle.it_docs.specs.declared.step.Step.{Step}
use Rattle.it_docs.specs.declared.rule.Side.TheVariants.{Materials, Products}
use Rattle.it_rules.specs.Item.{Links}
use Rattle.it_chain.specs.Contents.{Contents}
use Rattle.it_chain.specs.CountedBodies.{Setting}
use Rattle.it_chain.specs.First.{Failing, ChainPlace, StandsInChain, at_expiry, here, places}
use Rattle.it_chain.specs.First.{rule_places, step_places}
use Rattle.it_chain.specs.Judged.{settled_by}
use Rattle.it_chain.specs.Level.{Holding, LevelHolds, StepHolds}
use Rattle.it_chain.specs.StepRules.{StepRulesHold, links_in}
use Rattle.it_chain.specs.inside.StepRules.{AreRuled, IsFirstRuled}
use Rattle.it_chain.specs.inside.Walks.{FailsAt, Walks}
use Rattle.it_chain.specs.declared.chain.StepResult.{StepResult}
use Rattle.it_chain.specs.declared.refusal.ChainError.{ChainError}
use Rattle.it_chain.specs.declared.refusal.ChainError.TheVariants.{Refused}
use Rattle.it_chain.specs.declared.refusal.ChainFault.TheVariants.{Expired}
use Rattle.it_chain.specs.declared.refusal.ChainRefusal.{ChainRefusal}
use Rattle.it_chain.proofs.Excludes.{none_of_level}
use Rattle.it_chain.proofs.LevelRules.{no_rule_fails}
use Rattle.it_chain.proofs.Levels.{HoldsOneWay, HoldsOrFails}
use Rattle.it_chain.proofs.Members.{in_head, in_tail}
use Rattle.it_chain.proofs.Walks.{fails_before, fails_behind}

module _ (sub : Holding) (fails : Failing) (one : HoldsOneWay sub) (apart : HoldsOrFails sub fails)
    (setting : Setting) (layout : Layout) (bundle : Contents) where
  abbrev At : ChainPlace → ChainRefusal → Type 0
  At = StandsInChain sub fails setting layout bundle

  abbrev HoldsStep : Step → StepResult → Type 0
  HoldsStep = StepHolds sub setting layout bundle

  pub expired_first : (e : ChainError) → layout.expires <ℤ setting.moment
      → e ≡ Refused (here Expired) → FailsAt At (places layout) e
  expired_first e late is = subst (FailsAt At (places layout)) (sym is) (inl (late, refl))

  -- an error of the steps of a layout that has not expired
  pub steps_fail : (e : ChainError) → ¬ (layout.expires <ℤ setting.moment)
      → FailsAt At (flat_map (step_places layout) layout.steps) e → FailsAt At (places layout) e
  steps_fail e in_time h =
      fails_behind At (at_expiry ∷ []) (flat_map (step_places layout) layout.steps
      ++ flat_map rule_places layout.steps) e (λ r x. in_time x.0, tt)
      (fails_before At (flat_map (step_places layout) layout.steps)
      (flat_map rule_places layout.steps) e h)

  module _ (m : List StepResult) (holds : AllZip HoldsStep layout.steps m) where
    rules_first : (ss : List Step) (rs : List StepResult) → AllZip HoldsStep ss rs
        → ((step : Step) (result : StepResult) → Contains (zip ss rs) (step, result)
        → Contains (zip layout.steps m) (step, result))
        → (refusal : ChainRefusal) → IsFirstRuled (links_in m) (zip ss rs) refusal
        → IsFirst At (flat_map rule_places ss) refusal
    rules_first [] rs all pairs refusal h = h
    rules_first (s ∷ ss) [] all pairs refusal h = absurd all
    rules_first (s ∷ ss) (r ∷ rs) all pairs refusal h =
        let pair = pairs s r (in_head (s, r) (zip ss rs)) in
        ⊎_elim (λ x. inl (
          x.0,
          x.1,
          record {
            results = m;
            result = r;
            steps = holds;
            of_step = pair;
            fault = x.2;
          },
          x.3,
        ))
        (λ x. inr (
          no_rule_fails sub fails one setting layout bundle m holds s r Materials pair x.0,
          ⊎_elim (λ y. inl (
            y.0,
            y.1,
            record {
              results = m;
              result = r;
              steps = holds;
              of_step = pair;
              fault = y.2;
            },
            y.3,
          ))
              (λ y. inr (
                no_rule_fails sub fails one setting layout bundle m holds s r Products pair
                    y.0,
                rules_first ss rs all.1
                    (λ t q c. pairs t q (in_tail (s, r) (zip ss rs) (t, q) c)) refusal y.1,
              )) x.1,
        )) h

    -- the first rule that fails
    rules_fail : (r : ChainRefusal) → ¬ (layout.expires <ℤ setting.moment)
        → NoneAt At (flat_map (step_places layout) layout.steps)
        → IsFirstRuled (links_in m) (zip layout.steps m) r → IsFirst At (places layout) r
    rules_fail r in_time none h =
        fails_behind At (at_expiry ∷ []) (flat_map (step_places layout) layout.steps
        ++ flat_map rule_places layout.steps) (Refused r) (λ q x. in_time x.0, tt)
        (fails_behind At (flat_map (step_places layout) layout.steps)
        (flat_map rule_places layout.steps) (Refused r) none
        (rules_first layout.steps m holds (λ s q c. c) r h))

    rules_of_pairs : (links : Links) (ss : List Step) (rs : List StepResult)
        → AllZip HoldsStep ss rs → AllByRecursion (λ p. StepRulesHold links p.0 p.1) (zip ss rs)
        → AllZip (StepRulesHold links) ss rs
    rules_of_pairs links [] [] all h = tt
    rules_of_pairs links [] (r ∷ rs) all h = absurd all
    rules_of_pairs links (s ∷ ss) [] all h = absurd all
    rules_of_pairs links (s ∷ ss) (r ∷ rs) all h = (h.0, rules_of_pairs links ss rs all.1 h.1)

    level_holds : ¬ (layout.expires <ℤ setting.moment)
        → AllByRecursion (λ p. StepRulesHold (links_in m) p.0 p.1) (zip layout.steps m)
        → NoneAt At (places layout) × LevelHolds sub setting layout bundle m
    level_holds in_time rules =
        let h : LevelHolds sub setting layout bundle m = record {
          unexpired = in_time;
          steps = holds;
          rules =
              rules_of_pairs (links_in m) layout.steps m holds rules;
        } in
        (none_of_level sub fails one apart setting layout bundle m h, h)

    -- what the rules come to over the records
    pub level_judged : (failed : Option ChainRefusal) → ¬ (layout.expires <ℤ setting.moment)
        → NoneAt At (flat_map (step_places layout) layout.steps)
        → AreRuled (links_in m) (zip layout.steps m) failed
        → Walks At (places layout) (λ chain. LevelHolds sub setting layout bundle chain.steps)
        (settled_by (record { steps = m }) failed)
    level_judged None in_time none rules = level_holds in_time rules
    level_judged (Some r) in_time none first = rules_fail r in_time none first
