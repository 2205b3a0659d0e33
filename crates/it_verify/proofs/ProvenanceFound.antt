-- Provenance of delivered files among the envelopes that lines read as.
use Rattle.std.proofs.Common.{◌≡◌, ℕ, List, [], ◌∷◌, ◌++◌, Contains, Option, Some, inl, inr, ⊎_elim}
use Rattle.std.proofs.Common.{sym, ap, subst}
use Rattle.std.specs.FinMap.{entries, get}
use Rattle.std.specs.List.{AllByRecursion}
use Rattle.std.proofs.lemmas.List.Elements.{All-contains, All-from_recursion}
use Rattle.it_base.specs.Places.{IsFirst, NoneAt}
use Rattle.it_base.proofs.Firsts.{first_alike}
use Rattle.it_digest.specs.Artifacts.{ArtifactMap}
use Rattle.it_digest.specs.Sums.{lines_of}
use Rattle.it_digest.specs.declared.compare.DigestSet.{DigestSet}
use Rattle.it_dsse.specs.Panel.{Panel}
use Rattle.it_dsse.specs.declared.envelope.Envelope.{Envelope}
use Rattle.it_docs.specs.declared.policy.Expectation.{Expectation}
use Rattle.it_rules.proofs.Listed.{Contains-from_place}
use Rattle.it_chain.proofs.Entries.{known_entry}
use Rattle.it_prov.specs.Best.{IsBest, MeetsAtLevel}
use Rattle.it_prov.specs.Finding.{IsMissing}
use Rattle.it_prov.specs.Meets.{Meets}
use Rattle.it_prov.specs.ProvenanceLines.{AreReadFrom}
use Rattle.it_prov.proofs.Greatest.{greatest_alike}
use Rattle.it_prov.proofs.OneFit.{fits_one}
use Rattle.it_verify.specs.Provenance.{IsProvenanceLine, FileFails}
use Rattle.it_verify.specs.Refusals.{whole}
use Rattle.it_verify.specs.VerificationTakes.{FileTakes}
use Rattle.it_verify.specs.inside.Provenance.{FileAsks, FileLacks, FileProven}
use Rattle.it_verify.specs.Provenance.{HasProvenance}
use Rattle.it_verify.specs.inside.Failures.{RefusedAs}
use Rattle.it_verify.specs.declared.failure.Failure.{Failure}
use Rattle.it_verify.specs.declared.failure.Failure.TheVariants.{Refused}
use Rattle.it_verify.specs.declared.inputs.Inputs.{Inputs}
use Rattle.it_report.specs.declared.refusal.Fault.TheVariants.{NoProvenance}
use Rattle.it_report.specs.declared.refusal.Refusal.{Refusal}
use Rattle.it_verify.proofs.Failures.{fails_at}
use Rattle.it_verify.proofs.Lines.{line_of, read_of}

-- ---- among envelopes
module _ (panel : Panel) (expectations : List Expectation) (envelopes : List Envelope) where
  abbrev Proven : List ℕ × DigestSet → Type 0
  Proven = FileProven panel expectations envelopes

  abbrev Lacks : List ℕ × DigestSet → Refusal → Type 0
  Lacks = FileLacks panel expectations envelopes

  proven_apart : (file : List ℕ × DigestSet) → Proven file → (refusal : Refusal)
      → ¬ Lacks file refusal
  proven_apart file h refusal =
      let found = h.1 in
      let first = found.first in
      ⊎_elim (λ x. x.0 found.expectation found.fits)
      (λ x. x.1.none_meets first.envelope
      (Contains-from_place envelopes h.0 first.envelope first.stands)
      (subst (λ e. Meets panel e file.1 first.envelope)
      (fits_one expectations file.0 found.expectation x.1.expectation found.fits x.1.fits)
      first.meets))

  -- a refusal that names a file, and the best level of what does not meet its expectation
  pub none_proven : (file : List ℕ × DigestSet) (path : List ℕ) (best : Option ℕ) (e : Failure)
      → e ≡ Refused (whole (NoProvenance path best))
      → (path ≡ file.0) × IsMissing panel expectations file.0 file.1 envelopes best
      → RefusedAs (Lacks file) e
  none_proven file path best e is missing = subst (RefusedAs (Lacks file)) (sym is)
      (inr (best, missing.1, ap (λ named. whole (NoProvenance named best)) missing.0))

  none_lacks : (files : List (List ℕ × DigestSet)) → AllByRecursion Proven files
      → NoneAt Lacks files
  none_lacks [] h = tt
  none_lacks (f ∷ files) h = (proven_apart f h.0, none_lacks files h.1)

  pub proven_more : (done : List (List ℕ × DigestSet)) (file : List ℕ × DigestSet)
      → AllByRecursion Proven done → Proven file → AllByRecursion Proven (done ++ file ∷ [])
  proven_more [] file h last = (last, tt)
  proven_more (d ∷ done) file h last = (h.0, proven_more done file h.1 last)

  -- the first file that lacks provenance
  pub first_lacks : (files done : List (List ℕ × DigestSet)) (file : List ℕ × DigestSet)
      (rest : List (List ℕ × DigestSet)) (e : Failure) → files ≡ done ++ file ∷ rest
      → AllByRecursion Proven done
      → RefusedAs (Lacks file) e → RefusedAs (IsFirst Lacks files) e
  first_lacks files done file rest e all proven lacks = subst (λ fs. RefusedAs (IsFirst Lacks fs) e)
      (sym all) (fails_at Lacks done file rest e (none_lacks done proven) lacks)

-- ---- envelopes and lines
module _ (panel : Panel) (inputs : Inputs) (expectations : List Expectation)
    (envelopes : List Envelope) (places : List ℕ)
    (are : AreReadFrom 1 (lines_of inputs.provenance) envelopes places) where
  is_line : (envelope : Envelope) → Contains envelopes envelope → IsProvenanceLine inputs envelope
  is_line envelope c = let found = line_of 1 (lines_of inputs.provenance) envelopes places are envelope c in
      record { line = found.0; stands = found.1; reads = found.2 }

  has_provenance : (file : List ℕ × DigestSet) → FileProven panel expectations envelopes file
      → HasProvenance panel inputs expectations file.0 file.1
  has_provenance file h =
      let first = h.1.first in
      record {
        expectation = h.1.expectation;
        envelope = first.envelope;
        fits = h.1.fits;
        is_line = is_line first.envelope
            (Contains-from_place envelopes h.0 first.envelope first.stands);
        meets = first.meets;
      }

  -- a file takes what is asked among the envelopes
  pub file_takes : (file : List ℕ × DigestSet) (n : ℕ)
      → FileAsks panel expectations envelopes file n → FileTakes panel inputs expectations file n
  file_takes file n h =
      let at = h.1.asked in
      record {
        expectation = h.1.expectation;
        envelope = at.envelope;
        fits = h.1.fits;
        is_line = is_line at.envelope (Contains-from_place envelopes h.0 at.envelope at.stands);
        asked = at.asked;
      }

  -- an envelope is among those that are read just where it is a line
  is_read : (envelope : Envelope) → IsProvenanceLine inputs envelope → Contains envelopes envelope
  is_read envelope is = read_of 1 (lines_of inputs.provenance) envelopes places are is.line envelope
      is.stands is.reads

  abbrev HasLevel : (Envelope → Type 0) → Expectation → DigestSet → ℕ → Type 0
  HasLevel P expectation digests level = (envelope : Envelope) × P envelope
      × MeetsAtLevel panel expectation digests envelope level

  best_alike : (P Q : Envelope → Type 0) → ((envelope : Envelope) → P envelope → Q envelope)
      → ((envelope : Envelope) → Q envelope → P envelope)
      → (expectation : Expectation) (digests : DigestSet) (best : Option ℕ)
      → IsBest panel expectation digests P best → IsBest panel expectation digests Q best
  best_alike P Q to from expectation digests =
      greatest_alike (HasLevel P expectation digests) (HasLevel Q expectation digests)
      (λ level h. (h.0, to h.0 h.1, h.2)) (λ level h. (h.0, from h.0 h.1, h.2))

  lacks_fails : (file : List ℕ × DigestSet) (refusal : Refusal)
      → FileLacks panel expectations envelopes file refusal
      → FileFails panel inputs expectations file refusal
  lacks_fails file refusal =
      ⊎_elim inl
      (λ x. inr (
        x.1.expectation,
        x.0,
        x.1.fits,
        λ envelope is. x.1.none_meets envelope (is_read envelope is),
        best_alike (Contains envelopes) (IsProvenanceLine inputs) is_line is_read x.1.expectation
            file.1 x.0 x.1.best_is,
        x.2,
      ))

  fails_lacks : (file : List ℕ × DigestSet) (refusal : Refusal)
      → FileFails panel inputs expectations file refusal
      → FileLacks panel expectations envelopes file refusal
  fails_lacks file refusal =
      ⊎_elim inl
      (λ x. inr (
        x.1,
        record {
          expectation = x.0;
          fits = x.2;
          none_meets = λ envelope c. x.3 envelope (is_line envelope c);
          best_is = best_alike (IsProvenanceLine inputs) (Contains envelopes) is_read is_line x.0
              file.1 x.1 x.4;
        },
        x.5,
      ))

  -- each delivered file has provenance
  pub all_proven : (delivered : ArtifactMap)
      → AllByRecursion (FileProven panel expectations envelopes) (entries delivered)
      → (path : List ℕ) (digests : DigestSet) → get delivered path ≡ Some digests
      → HasProvenance panel inputs expectations path digests
  all_proven delivered h path digests known =
      has_provenance (path, digests)
      (All-contains (FileProven panel expectations envelopes) (entries delivered) (path, digests)
      (All-from_recursion (FileProven panel expectations envelopes) (entries delivered) h)
      (known_entry delivered path digests known))

  -- the first that has none
  pub first_unproven : (delivered : ArtifactMap) (refusal : Refusal)
      → IsFirst (FileLacks panel expectations envelopes) (entries delivered) refusal
      → IsFirst (FileFails panel inputs expectations) (entries delivered) refusal
  first_unproven delivered refusal = first_alike (FileLacks panel expectations envelopes)
      (FileFails panel inputs expectations) (entries delivered) (λ file c. lacks_fails file)
      (λ file c. fails_lacks file) refusal
