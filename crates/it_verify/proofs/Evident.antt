-- The layout holds of the links, and each inspection has its record, or their places have
-- something.
use Rattle.std.proofs.Common.{◌≡◌, ◌≢◌, ◌⊎◌, ℕ, List, [], ◌∷◌, All, Option, Some, None, inl, inr}
use Rattle.std.proofs.Common.{refl, sym, subst, ◌∙◌, ⊎_elim}
use Rattle.std.specs.List.{AllZip}
use Rattle.std.specs.Str.{bytes_eq}
use Rattle.std.proofs.lemmas.List.Elements.{All-head, All-tail}
use Rattle.std.proofs.lemmas.Option.{same_Some}
use Rattle.std.proofs.lemmas.Slice.Eq.{bytes_eq-Decides}
use Rattle.it_base.specs.Finds.{Finds}
use Rattle.it_base.proofs.Settled.{settled_by}
use Rattle.it_base.proofs.Firsts.{first_or_all}
use Rattle.it_dsse.specs.Panel.{Panel}
use Rattle.it_docs.specs.Link.{LinkOf}
use Rattle.it_docs.specs.declared.link.Link.{Link}
use Rattle.it_docs.specs.declared.step.Inspection.{Inspection}
use Rattle.it_docs.proofs.LinkDecided.{link_of, link_of-finds}
use Rattle.it_docs.proofs.Same.{link_same}
use Rattle.it_chain.specs.Chain.{Chain}
use Rattle.it_chain.specs.declared.chain.StepResult.{StepResult}
use Rattle.it_chain.proofs.Deciding.{holds_or_fails}
use Rattle.it_verify.specs.Documents.{Documents, ReadAs, setting_of}
use Rattle.it_verify.specs.Inspections.{record_at, RecordFails}
use Rattle.it_verify.specs.Refusals.{refusal_of, whole}
use Rattle.it_verify.specs.RefusedFor.{at_links, at_records}
use Rattle.it_verify.specs.Inspections.{HasRecorded}
use Rattle.it_verify.specs.declared.inputs.Inputs.{Inputs}
use Rattle.it_report.specs.declared.refusal.Fault.TheVariants.{RecordMissing, BadRecord}
use Rattle.it_report.specs.declared.refusal.Refusal.{Refusal}
use Rattle.it_verify.proofs.Documented.{StandsOr}
use Rattle.it_verify.proofs.EvidenceClear.{clear_links, clear_records}

-- ---- one record
module _ (inputs : Inputs) (inspection : Inspection) where
  abbrev Recorded : Type 0
  Recorded = (link : Link) × HasRecorded inputs inspection link

  abbrev RecordedOr : Type 0
  RecordedOr = ((refusal : Refusal) × RecordFails inputs inspection refusal) ⊎ Recorded

  module _ (bytes : List ℕ) (is_first : record_at inspection.name inputs ≡ Some bytes) where
    pub some_record : record_at inspection.name inputs ≢ None
    some_record e = let none : ◌≡◌ {A = Option (List ℕ)} (Some bytes) None = sym is_first ∙ e in cc

    pub reads_it : (link : Link) → HasRecorded inputs inspection link → LinkOf bytes link
    reads_it link h = subst (λ b. LinkOf b link)
        (same_Some h.bytes bytes (sym h.is_first ∙ is_first)) h.reads

    of_link : (found : Option Link) → Finds (LinkOf bytes) found → RecordedOr
    of_link None h = inl (
      whole (BadRecord inspection.name),
      inr (some_record, λ link given. h link (reads_it link given), refl),
    )
    of_link (Some link) h =
        elim (settled_by (bytes_eq link.name inspection.name)
        (bytes_eq-Decides link.name inspection.name)) [
          | inl same ↦ inr (
            link,
            record {
              bytes = bytes;
              is_first = is_first;
              reads = h;
              name_is = same;
            },
          )
          | inr other ↦ inl (
            whole (BadRecord inspection.name),
            inr (
              some_record,
              λ given k. other (subst (λ (l : Link). l.name ≡ inspection.name)
                  (link_same bytes given link (reads_it given k) h) k.name_is),
              refl,
            ),
          )
        ]

  of_record : (found : Option (List ℕ)) → record_at inspection.name inputs ≡ found → RecordedOr
  of_record None e = inl (whole (RecordMissing inspection.name), inl (e, refl))
  of_record (Some bytes) e = of_link bytes e (link_of bytes) (link_of-finds bytes)

  recorded_or_fails : RecordedOr
  recorded_or_fails = of_record (record_at inspection.name inputs) refl

  recorded_apart : Recorded → (refusal : Refusal) → ¬ RecordFails inputs inspection refusal
  recorded_apart h refusal =
      ⊎_elim (λ x. absurd (some_record h.1.bytes h.1.is_first x.0)) (λ x. x.1 h.0 h.1)

records_of : (inputs : Inputs) (inspections : List Inspection) → All (Recorded inputs) inspections
    → (links : List Link) × AllZip (HasRecorded inputs) inspections links
records_of inputs [] all = ([], tt)
records_of inputs (i ∷ is) all =
    let first = All-head (Recorded inputs) i is all in
    let rest = records_of inputs is (All-tail (Recorded inputs) i is all) in
    (first.0 ∷ rest.0, (first.1, rest.1))

-- ---- the places
module _ (panel : Panel) (inputs : Inputs) (documents : Documents)
    (read : ReadAs inputs documents) where
  pub links_or : StandsOr panel inputs at_links ((m : List StepResult)
      × Chain (setting_of panel documents) inputs.depth documents.layout inputs.links m)
  links_or = elim (holds_or_fails (setting_of panel documents) inputs.depth documents.layout
      inputs.links) [
        | inl holds ↦ inr (holds, clear_links panel inputs documents read holds.0 holds.1)
        | inr fails ↦ inl (refusal_of fails.0, (documents, fails.0, read, fails.1, refl))
      ]

  pub records_or : StandsOr panel inputs at_records ((links : List Link)
      × AllZip (HasRecorded inputs) documents.layout.inspections links)
  records_or = elim (first_or_all (RecordFails inputs) (Recorded inputs) (recorded_apart inputs)
      (recorded_or_fails inputs) documents.layout.inspections) [
        | inl found ↦ inl (found.0, (documents, read, found.1))
        | inr goods ↦
            let records = records_of inputs documents.layout.inspections goods in
            inr (records, clear_records panel inputs documents read records.0 records.1)
      ]
