-- A step of a layout, and its record.
use Rattle.std.proofs.Common.{◌≡◌, ℕ, zero, suc, List, [], ◌∷◌, Some, Contains, refl, map, subst}
use Rattle.std.specs.List.{AllZip, slice_get}
use Rattle.std.proofs.lemmas.List.Elements.{Contains-append_left}
use Rattle.it_dsse.specs.Panel.{Panel}
use Rattle.it_docs.specs.declared.link.Link.{Link}
use Rattle.it_docs.specs.declared.step.Step.{Step}
use Rattle.it_rules.specs.Item.{Recorded}
use Rattle.it_rules.proofs.Listed.{Contains-map, named_once}
use Rattle.it_chain.specs.Chain.{holds_below}
use Rattle.it_chain.specs.Level.{StepHolds}
use Rattle.it_chain.specs.StepRules.{links_in, recorded_in as recorded_by}
use Rattle.it_chain.specs.declared.chain.StepResult.{StepResult}
use Rattle.it_verify.specs.Documents.{setting_of}
use Rattle.it_verify.specs.Evidence.{IsEvidence, evidence_links}
use Rattle.it_verify.specs.Inspections.{recorded_in}
use Rattle.it_verify.specs.declared.documents.Documents.{Documents}
use Rattle.it_verify.specs.declared.evidence.Evidence.{Evidence}
use Rattle.it_verify.specs.declared.inputs.Inputs.{Inputs}
use Rattle.it_verify.proofs.NamesApart.{links_differ}
use Rattle.it_verify.proofs.Held.{chain_records}
use Rattle.it_strict.specs.StrictLaws.{IsStepWith}

-- at a place of one list the other has an element too
zip_at : {X Y : Type 0} (R : X → Y → Type 0) (xs : List X) (ys : List Y) → AllZip R xs ys → (i : ℕ)
    (x : X) → slice_get xs i ≡ Some x → (y : Y) × (slice_get ys i ≡ Some y) × R x y
zip_at R [] ys h i x e = cc e
zip_at R (z ∷ xs) [] h i x e = absurd h
zip_at R (z ∷ xs) (y ∷ ys) h zero x e =
    let same : z ≡ x = cc e in (y, refl, subst (λ v. R v y) same h.0)
zip_at R (z ∷ xs) (y ∷ ys) h (suc i) x e = zip_at R xs ys h.1 i x e

module _ (panel : Panel) (inputs : Inputs) (documents : Documents) (evidence : Evidence)
    (is_evidence : IsEvidence panel inputs documents evidence) where
  -- the step at a place of the layout has a record
  pub step_with : (place : ℕ) (step : Step) → slice_get documents.layout.steps place ≡ Some step
      → (result : StepResult) × IsStepWith panel inputs documents evidence place step result
  step_with place step here =
      let setting = setting_of panel documents in
      let hold = chain_records setting inputs.depth documents.layout inputs.links evidence.steps
      is_evidence.steps in
      let found = zip_at
      (StepHolds (holds_below setting inputs.depth) setting documents.layout inputs.links)
      documents.layout.steps evidence.steps hold place step here in (
        found.0,
        record {
          is_step = here;
          is_record = found.1;
          holds = found.2;
        },
      )

  -- its record is what MATCH finds under its name
  pub linked_is : (place : ℕ) (step : Step) (result : StepResult)
      → IsStepWith panel inputs documents evidence place step result → (linked : Recorded)
      → Contains (evidence_links evidence) (step.name, linked) → linked ≡ recorded_by result
  linked_is place step result is_step linked named =
      let links = evidence_links evidence in
      let among : Contains (links_in evidence.steps) (result.name, recorded_by result) =
      Contains-map (λ (r : StepResult). (r.name, recorded_by r)) evidence.steps place result
      is_step.is_record in
      let in_links : Contains links (result.name, recorded_by result) =
      Contains-append_left (links_in evidence.steps)
      (map (λ (l : Link). (l.name, recorded_in l)) evidence.inspections)
      (result.name, recorded_by result) among in
      named_once links step.name linked (recorded_by result)
      (links_differ panel inputs documents evidence is_evidence) named
      (subst (λ n. Contains links (n, recorded_by result)) is_step.holds.name in_links)
