-- The names of what steps and inspections recorded differ.
use Rattle.std.proofs.Common.{◌≡◌, ◌≢◌, ℕ, zero, suc, ◌<◌, List, [], ◌∷◌, ◌++◌, map, length, get_or}
use Rattle.std.proofs.Common.{AllPairs, refl, sym, ap, ◌∙◌, arith}
use Rattle.std.specs.List.{AllZip}
use Rattle.std.proofs.lemmas.List.{get_or-map, length-map, map-append}
use Rattle.std.proofs.lemmas.Map.Made.{AllPairs-from_IsDistinct}
use Rattle.std.proofs.lemmas.Simd.{map-map}
use Rattle.std.proofs.lemmas.Slice.Eq.{bytes_eq-Decides}
use Rattle.it_dsse.specs.Panel.{Panel}
use Rattle.it_docs.specs.Step.{names_of}
use Rattle.it_docs.specs.declared.layout.Layout.{Layout}
use Rattle.it_docs.specs.declared.link.Link.{Link}
use Rattle.it_docs.specs.declared.step.Inspection.{Inspection}
use Rattle.it_docs.specs.declared.step.Step.{Step}
use Rattle.it_rules.specs.Item.{Links, Recorded, links_of as lent_of}
use Rattle.it_rules.specs.Rules.{NamesDiffer}
use Rattle.it_rules.specs.declared.item.Named.{Named}
use Rattle.it_chain.specs.Chain.{Chain}
use Rattle.it_chain.specs.Contents.{Contents}
use Rattle.it_chain.specs.CountedBodies.{Setting}
use Rattle.it_chain.specs.Level.{LevelHolds, StepHolds}
use Rattle.it_chain.specs.StepRules.{links_in, recorded_in as recorded_by}
use Rattle.it_chain.specs.declared.chain.StepResult.{StepResult}
use Rattle.it_verify.specs.Documents.{Documents}
use Rattle.it_verify.specs.Evidence.{Evidence, IsEvidence, evidence_links}
use Rattle.it_verify.specs.Inspections.{HasRecorded, recorded_in}
use Rattle.it_verify.specs.declared.inputs.Inputs.{Inputs}

-- what two lists have in common, place by place
same_shown : {X Y Z : Type 0} (R : X → Y → Type 0) (f : X → Z) (g : Y → Z)
    → ((x : X) (y : Y) → R x y → g y ≡ f x) → (xs : List X) (ys : List Y) → AllZip R xs ys
    → map g ys ≡ map f xs
same_shown R f g same [] [] h = refl
same_shown R f g same [] (y ∷ ys) h = absurd h
same_shown R f g same (x ∷ xs) [] h = absurd h
same_shown R f g same (x ∷ xs) (y ∷ ys) h =
    let first = same x y h.0 in
    let rest = same_shown R f g same xs ys h.1 in
    λ i. first i ∷ rest i

-- links under names that differ
links_apart : (links : Links) (names : List (List ℕ)) → map (λ (l : List ℕ × Recorded). l.0) links
    ≡ names → AllPairs (λ a b. a ≢ b) names → NamesDiffer links
links_apart links names same apart i j d less below equal =
    let long : length links ≡ length names = sym (length-map links (λ (l : List ℕ × Recorded). l.0))
    ∙ ap length same in
    let at_place : (k : ℕ) → k < length links → get_or names k d.0 ≡ (get_or links k d).0 =
    λ k inside. ap (λ ns. get_or ns k d.0) (sym same)
    ∙ get_or-map (λ (l : List ℕ × Recorded). l.0) links k d d.0 inside in
    apart i j d.0 less (omega (arith, long, below)) (at_place i (omega (arith, less, below)) ∙ equal
    ∙ sym (at_place j below))

level_names : (sub : Layout → Contents → List StepResult → Type 0) (setting : Setting)
    (layout : Layout) (bundle : Contents) (results : List StepResult)
    → LevelHolds sub setting layout bundle results
    → map (λ (r : StepResult). r.name) results ≡ map (λ (s : Step). s.name) layout.steps
level_names sub setting layout bundle results h =
    same_shown (StepHolds sub setting layout bundle) (λ (s : Step). s.name)
    (λ (r : StepResult). r.name) (λ s r holds. holds.name) layout.steps results h.steps

step_names : (setting : Setting) (depth : ℕ) (layout : Layout) (bundle : Contents)
    (results : List StepResult) → Chain setting depth layout bundle results
    → map (λ (r : StepResult). r.name) results ≡ map (λ (s : Step). s.name) layout.steps
step_names setting zero layout bundle results h = level_names _ setting layout bundle results h
step_names setting (suc depth) layout bundle results h =
    level_names _ setting layout bundle results h

module _ (panel : Panel) (inputs : Inputs) (documents : Documents) (evidence : Evidence)
    (is_evidence : IsEvidence panel inputs documents evidence) where
  link_names : map (λ (l : List ℕ × Recorded). l.0) (evidence_links evidence)
      ≡ names_of documents.layout.steps documents.layout.inspections
  link_names =
      let steps = map-map (λ (l : List ℕ × Recorded). l.0)
      (λ (r : StepResult). (r.name, recorded_by r)) evidence.steps
      ∙ step_names _ inputs.depth documents.layout inputs.links evidence.steps
      is_evidence.steps in
      let inspections = map-map (λ (l : List ℕ × Recorded). l.0)
      (λ (l : Link). (l.name, recorded_in l)) evidence.inspections
      ∙ same_shown (HasRecorded inputs) (λ (i : Inspection). i.name) (λ (l : Link). l.name)
      (λ i l has. has.name_is) documents.layout.inspections evidence.inspections
      is_evidence.inspections in
      map-append (λ (l : List ℕ × Recorded). l.0) (links_in evidence.steps)
      (map (λ (l : Link). (l.name, recorded_in l)) evidence.inspections)
      ∙ (λ k. steps k ++ inspections k)

  pub links_differ : NamesDiffer (evidence_links evidence)
  links_differ = links_apart (evidence_links evidence)
      (names_of documents.layout.steps documents.layout.inspections) link_names
      (AllPairs-from_IsDistinct bytes_eq-Decides
      (names_of documents.layout.steps documents.layout.inspections)
      documents.layout.names_differ)

-- links that are lent are those of the evidence
pub lent_links : (evidence : Evidence) (steps : List StepResult) (inspections : List Link)
    (made lent : List Named) → lent ≡ made → lent_of made ≡ links_in steps
    ++ map (λ link. (link.name, recorded_in link)) inspections
    → steps ≡ evidence.steps → inspections ≡ evidence.inspections
    → lent_of lent ≡ evidence_links evidence
lent_links evidence steps inspections made lent same are all_steps all_inspections =
    ap lent_of same ∙ are
    ∙ (λ k. links_in (all_steps k) ++ map (λ link. (link.name, recorded_in link))
    (all_inspections k))
