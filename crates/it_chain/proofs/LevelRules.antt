-- The records with which the steps of a layout hold: their names differ, and where the rules hold
-- over them nothing stands at the rules.
use Rattle.std.proofs.Common.{◌≡◌, ◌≢◌, ℕ, ◌<◌, List, [], ◌∷◌, map, zip, length, get_or, AllPairs}
use Rattle.std.proofs.Common.{Contains, refl, sym, ap, subst, ◌∙◌, arith}
use Rattle.std.specs.List.{AllZip}
use Rattle.std.proofs.lemmas.List.{length-append, length-map, get_or-map, get_or_append_left}
use Rattle.std.proofs.lemmas.Map.Made.{AllPairs-from_IsDistinct}
use Rattle.std.proofs.lemmas.Slice.Eq.{bytes_eq-Decides}
use Rattle.it_docs.specs.Step.{names_of}
use Rattle.it_docs.specs.declared.step.Inspection.{Inspection}
use Rattle.it_docs.specs.declared.layout.Layout.{Layout}
use Rattle.it_docs.specs.declared.step.Step.{Step}
use Rattle.it_docs.specs.declared.rule.Side.{Side}
use Rattle.it_rules.specs.Item.{Recorded}
use Rattle.it_rules.specs.Rules.{NamesDiffer, RulesHold}
use Rattle.it_chain.specs.Contents.{Contents}
use Rattle.it_chain.specs.CountedBodies.{Setting}
use Rattle.it_chain.specs.First.{Failing, ChainPlace, at_rules, StandsInChain}
use Rattle.it_chain.specs.Level.{Holding, StepHolds}
use Rattle.it_chain.specs.StepRules.{links_in, recorded_in, rules_on}
use Rattle.it_chain.specs.declared.chain.StepResult.{StepResult}
use Rattle.it_chain.specs.declared.refusal.ChainRefusal.{ChainRefusal}
use Rattle.it_chain.proofs.Levels.{HoldsOneWay, step_one, steps_one}
use Rattle.it_chain.proofs.Zips.{of_zip}

module _ (sub : Holding) (fails : Failing) (one : HoldsOneWay sub) (setting : Setting)
    (layout : Layout) (bundle : Contents) where
  abbrev At : ChainPlace → ChainRefusal → Type 0
  At = StandsInChain sub fails setting layout bundle

  abbrev HoldsStep : Step → StepResult → Type 0
  HoldsStep = StepHolds sub setting layout bundle

  -- nothing stands at the rules of a step that hold over the records with which the steps do
  pub no_rule_fails : (m : List StepResult) → AllZip HoldsStep layout.steps m
      → (step : Step) (result : StepResult) (side : Side) → Contains (zip layout.steps m)
      (step, result)
      → RulesHold (rules_on side step) side (recorded_in result) (links_in m)
      → (refusal : ChainRefusal) → ¬ At (at_rules step side) refusal
  no_rule_fails m holds step result side c rules refusal x =
      let k = x.2 in
      let results : m ≡ k.results = steps_one sub one setting bundle layout layout.steps m k.results
      holds k.steps in
      let same : result ≡ k.result = step_one sub one setting bundle layout step result k.result
      (of_zip HoldsStep layout.steps m step result holds c)
      (of_zip HoldsStep layout.steps k.results step k.result k.steps k.of_step) in
      k.fault.fails (subst (λ rs. RulesHold (rules_on side step) side (recorded_in k.result)
      (links_in rs)) results
      (subst (λ r. RulesHold (rules_on side step) side (recorded_in r) (links_in m)) same rules)
      x.0)

  names_same : (ss : List Step) (rs : List StepResult) → AllZip HoldsStep ss rs
      → map (λ (l : List ℕ × Recorded). l.0) (links_in rs) ≡ map (λ (s : Step). s.name) ss
  names_same [] [] h = refl
  names_same [] (r ∷ rs) h = absurd h
  names_same (s ∷ ss) [] h = absurd h
  names_same (s ∷ ss) (r ∷ rs) h =
      let name = h.0.name in
      let rest = names_same ss rs h.1 in
      λ i. name i ∷ rest i

  -- the names of the records differ
  pub links_differ : (m : List StepResult) → AllZip HoldsStep layout.steps m
      → NamesDiffer (links_in m)
  links_differ m holds i j d less below =
      let names = map (λ (s : Step). s.name) layout.steps in
      let all : AllPairs (λ a b. a ≢ b) (names_of layout.steps layout.inspections) =
      AllPairs-from_IsDistinct bytes_eq-Decides (names_of layout.steps layout.inspections)
      layout.names_differ in
      let same : map (λ (l : List ℕ × Recorded). l.0) (links_in m) ≡ names =
      names_same layout.steps m holds in
      let long : length (links_in m) ≡ length names =
      sym (length-map (links_in m) (λ (l : List ℕ × Recorded). l.0)) ∙ ap length same in
      let at_place : (k : ℕ) → k < length (links_in m) → (get_or (links_in m) k d).0 ≡ get_or
      (names_of layout.steps layout.inspections) k d.0 =
      λ k inside_k. sym (get_or-map (λ (l : List ℕ × Recorded). l.0) (links_in m) k d d.0 inside_k)
      ∙ ap (λ xs. get_or xs k d.0) same
      ∙ sym (get_or_append_left names (map (λ (x : Inspection). x.name) layout.inspections) d.0 k
      (omega (arith, long, inside_k))) in
      λ equal. all i j d.0 less
      (let whole = length-append names (map (λ (x : Inspection). x.name) layout.inspections) in
      omega (arith, whole, long, below))
      (sym (at_place i (omega (arith, less, below))) ∙ equal ∙ at_place j below)
