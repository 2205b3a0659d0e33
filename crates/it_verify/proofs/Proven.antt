-- Each delivered file has provenance, or its place has something.
use Rattle.std.proofs.Common.{◌≡◌, ◌⊎◌, ℕ, List, Option, Some, None, inl, inr, refl, subst}
use Rattle.std.specs.FinMap.{entries, get}
use Rattle.std.proofs.lemmas.List.Elements.{All-contains}
use Rattle.it_base.specs.Finds.{Finds}
use Rattle.it_base.proofs.Settled.{Settled, some_or_none}
use Rattle.it_base.proofs.Firsts.{first_or_all}
use Rattle.it_digest.specs.Sums.{lines_of}
use Rattle.it_digest.specs.declared.compare.DigestSet.{DigestSet}
use Rattle.it_dsse.specs.Panel.{Panel}
use Rattle.it_dsse.specs.Envelope.{EnvelopeOf}
use Rattle.it_dsse.specs.declared.envelope.Envelope.{Envelope}
use Rattle.it_dsse.proofs.Decided.{envelope_of, envelope_of-finds}
use Rattle.it_docs.specs.declared.policy.Expectation.{Expectation}
use Rattle.it_chain.proofs.Documents.{envelope_same}
use Rattle.it_chain.proofs.Entries.{known_entry}
use Rattle.it_prov.specs.Best.{IsBest, IsGreatest, MeetsAtLevel}
use Rattle.it_prov.specs.inside.Judged.{OfSome}
use Rattle.it_prov.specs.Meets.{Meets}
use Rattle.it_prov.proofs.Fitting.{fits_or_none}
use Rattle.it_prov.proofs.Greatest.{greatest_alike, some_greatest}
use Rattle.it_prov.proofs.Meeting.{greatest_level, meets_or_not}
use Rattle.it_verify.specs.Documents.{Documents, ReadAs}
use Rattle.it_verify.specs.Provenance.{IsProvenanceLine, FileFails}
use Rattle.it_verify.specs.Refusals.{whole}
use Rattle.it_verify.specs.RefusedFor.{at_provenance}
use Rattle.it_verify.specs.Provenance.{HasProvenance}
use Rattle.it_verify.specs.declared.inputs.Inputs.{Inputs}
use Rattle.it_report.specs.declared.refusal.Fault.TheVariants.{NoExpectation, NoProvenance}
use Rattle.it_report.specs.declared.refusal.Refusal.{Refusal}
use Rattle.it_verify.proofs.Documented.{StandsOr}
use Rattle.it_verify.proofs.EvidenceClear.{file_apart, clear_provenance}

-- ---- one line, for an expectation and a digest set
module _ (panel : Panel) (expectation : Expectation) (digests : DigestSet) where
  abbrev LineMeets : List ℕ → Type 0
  LineMeets line = (envelope : Envelope) × EnvelopeOf line envelope
      × Meets panel expectation digests envelope

  line_meets_or_not : (line : List ℕ) → Settled (LineMeets line)
  line_meets_or_not line = go (envelope_of line) (envelope_of-finds line)
    where
      go : (found : Option Envelope) → Finds (EnvelopeOf line) found → Settled (LineMeets line)
      go None h = inr (λ m. h m.0 m.1)
      go (Some envelope) h = elim (meets_or_not panel expectation digests envelope) [
        | inl meets ↦ inl (envelope, h, meets)
        | inr n ↦ inr (λ m. n
            (subst (Meets panel expectation digests) (envelope_same line m.0 envelope m.1 h) m.2))
      ]

  -- ---- the best level
  -- with this level a line meets the expectation in all but the level
  abbrev LineLevel : List ℕ → ℕ → Type 0
  LineLevel line level = (envelope : Envelope) × EnvelopeOf line envelope
      × MeetsAtLevel panel expectation digests envelope level

  line_best : (line : List ℕ) → (best : Option ℕ) × IsGreatest (LineLevel line) best
  line_best line = go (envelope_of line) (envelope_of-finds line)
    where
      go : (found : Option Envelope) → Finds (EnvelopeOf line) found → (best : Option ℕ)
          × IsGreatest (LineLevel line) best
      go None h = (None, λ level m. h m.0 m.1)
      go (Some envelope) h =
          let best = greatest_level panel expectation digests envelope in (
            best.0,
            greatest_alike (MeetsAtLevel panel expectation digests envelope) (LineLevel line)
                (λ level m. (envelope, h, m))
                (λ level m. subst (λ e. MeetsAtLevel panel expectation digests e level)
                (envelope_same line m.0 envelope m.1 h) m.2) best.0 best.1,
          )

  best_of : (inputs : Inputs) → (best : Option ℕ) × IsBest panel expectation digests
      (IsProvenanceLine inputs) best
  best_of inputs =
      let best = some_greatest LineLevel line_best (lines_of inputs.provenance) in (
        best.0,
        greatest_alike (OfSome LineLevel (lines_of inputs.provenance))
            (λ level. (envelope : Envelope) × IsProvenanceLine inputs envelope
            × MeetsAtLevel panel expectation digests envelope level)
            (λ level h. (h.2.0, record { line = h.0; stands = h.1; reads = h.2.1 }, h.2.2))
            (λ level h. (h.1.line, h.1.stands, (h.0, h.1.reads, h.2))) best.0 best.1,
      )

-- ---- one file
module _ (panel : Panel) (inputs : Inputs) (expectations : List Expectation) where
  abbrev IsProven : List ℕ × DigestSet → Type 0
  IsProven file = HasProvenance panel inputs expectations file.0 file.1

  proven_or_fails : (file : List ℕ × DigestSet)
      → ((refusal : Refusal) × FileFails panel inputs expectations file refusal) ⊎ IsProven file
  proven_or_fails file = elim (fits_or_none file.0 expectations) [
    | inr none ↦ inl (whole (NoExpectation file.0), inl (none, refl))
    | inl found ↦ elim (some_or_none (LineMeets panel found.0 file.1)
        (line_meets_or_not panel found.0 file.1) (lines_of inputs.provenance)) [
          | inl l ↦ inr (record {
            expectation = found.0;
            envelope = l.2.0;
            fits = found.1;
            is_line = record {
              line = l.0;
              stands = l.1;
              reads = l.2.1;
            };
            meets = l.2.2;
          })
          | inr none ↦
              let best = best_of panel found.0 file.1 inputs in
              inl (
                whole (NoProvenance file.0 best.0),
                inr (
                  found.0,
                  best.0,
                  found.1,
                  λ envelope is meets. none is.line is.stands
                      (envelope, is.reads, meets),
                  best.1,
                  refl,
                ),
              )
        ]
  ]

-- ---- the place
module _ (panel : Panel) (inputs : Inputs) (documents : Documents)
    (read : ReadAs inputs documents) where
  abbrev AllProven : Type 0
  AllProven = (path : List ℕ) (digests : DigestSet) → get documents.delivered path ≡ Some digests
      → HasProvenance panel inputs documents.policy.expectations path digests

  pub provenance_or : StandsOr panel inputs at_provenance AllProven
  provenance_or =
      let fails = FileFails panel inputs documents.policy.expectations in
      let proven = IsProven panel inputs documents.policy.expectations in
      let apart = file_apart panel inputs documents.policy.expectations in
      elim (first_or_all fails proven apart
      (proven_or_fails panel inputs documents.policy.expectations)
      (entries documents.delivered)) [
        | inl found ↦ inl (found.0, (documents, read, found.1))
        | inr goods ↦
            let all : AllProven = λ path digests known. All-contains proven
            (entries documents.delivered) (path, digests) goods
            (known_entry documents.delivered path digests known) in
            inr (all, clear_provenance panel inputs documents read all)
      ]
