-- What stands for the delivered files, one after another.
use Rattle.std.proofs.Common.{◌≡◌, ◌∙◌, ◌++◌, ◌∷◌, [], ℕ, List, Option, None, Some, Contains, inl, inr}
use Rattle.std.proofs.Common.{append-nil, refl, ap, subst, ⊎_elim}
use Rattle.std.specs.FinMap.{entries}
use Rattle.std.specs.List.{AllZip, cons_option}
use Rattle.std.proofs.lemmas.Slice.Zip.{all_zipped_more}
use Rattle.it_base.proofs.Members.{in_head, in_tail}
use Rattle.it_digest.specs.Sums.{lines_of}
use Rattle.it_digest.specs.declared.compare.DigestSet.{DigestSet}
use Rattle.it_dsse.specs.Panel.{Panel}
use Rattle.it_dsse.specs.Signed.{AreThose}
use Rattle.it_dsse.specs.declared.envelope.Envelope.{Envelope}
use Rattle.it_dsse.proofs.Keeping.{keep_last, pass_last}
use Rattle.it_docs.specs.declared.policy.Expectation.{Expectation}
use Rattle.it_chain.proofs.Entries.{entry_known}
use Rattle.it_json_report.specs.declared.evidence.FileEvidence.{FileEvidence}
use Rattle.it_verify.specs.declared.documents.Documents.{Documents}
use Rattle.it_verify.specs.declared.evidence.Evidence.{Evidence}
use Rattle.it_verify.specs.Made.{IsMadeBy}
use Rattle.it_verify.specs.Provenance.{HasProvenance}
use Rattle.it_verify.specs.declared.inputs.Inputs.{Inputs}
use Rattle.it_vouched.specs.declared.vouched.Vouched.{Vouched}
use Rattle.it_file_evidence.specs.FileEvidence.{AreFileEvidence, IsFileEvidence}
use Rattle.it_prov.specs.ProvenanceLines.{AreReadFrom}
use Rattle.it_file_evidence.specs.inside.Proven.{AreEvidence, IsEvidenceOrNone, IsProven}
use Rattle.it_verify.proofs.Lines.{line_of, read_of}

abbrev File : Type 0
File = List ℕ × DigestSet

-- ---- one file more
module _ (panel : Panel) (expectations : List Expectation) (vouched : List Vouched)
    (lines : List (List ℕ)) (envelopes : List Envelope) where
  abbrev Are : List File → List FileEvidence → Type 0
  Are = AreEvidence panel expectations vouched lines envelopes

  pub no_evidence : Are [] []
  no_evidence = record { proven = []; are_those = refl; each = tt }

  pub evidence_more : (done : List File) (found : List FileEvidence) (file : File)
      (one : Option FileEvidence) → Are done found
      → IsEvidenceOrNone panel expectations vouched lines envelopes file one
      → Are (done ++ file ∷ []) (found ++ cons_option one [])
  evidence_more done found file None are none = rw (append-nil found) (record {
    proven = are.proven;
    are_those = pass_last (IsProven panel expectations envelopes) done are.proven file are.are_those
        none;
    each = are.each;
  })
  evidence_more done found file (Some one) are is = record {
    proven = are.proven ++ file ∷ [];
    are_those = keep_last (IsProven panel expectations envelopes) done are.proven file are.are_those
        is.0;
    each = all_zipped_more (IsFileEvidence panel vouched lines expectations) are.proven found file
        one are.each is.1;
  }

-- ---- lists that keep what a fact holds of
module _ {X : Type 0} (P Q : X → Type 0) (to : (x : X) → P x → Q x)
    (from : (x : X) → Q x → P x) where
  those_alike : (xs kept : List X) → AreThose P xs kept → AreThose Q xs kept
  those_alike [] kept are = are
  those_alike (x ∷ xs) kept are = ⊎_elim
      (λ k. inl (to x k.0, (k.1.0, k.1.1, those_alike xs k.1.0 k.1.2)))
      (λ k. inr (λ q. k.0 (from x q), those_alike xs kept k.1)) are

those_all : {X : Type 0} (P : X → Type 0) (xs kept : List X) → AreThose P xs kept
    → ((x : X) → Contains xs x → P x) → kept ≡ xs
those_all P [] kept are all = are
those_all P (x ∷ xs) kept are all = ⊎_elim
    (λ k. k.1.1 ∙ ap (λ rest. x ∷ rest) (those_all P xs k.1.0 k.1.2
    (λ y c. all y (in_tail x xs y c))))
    (λ k. absurd (k.0 (all x (in_head x xs)))) are

-- ---- all files
module _ (panel : Panel) (inputs : Inputs) (documents : Documents) (envelopes : List Envelope)
    (places : List ℕ) (read : AreReadFrom 1 (lines_of inputs.provenance) envelopes places) where
  abbrev expectations : List Expectation
  expectations = documents.policy.expectations

  abbrev Proven : File → Type 0
  Proven file = HasProvenance panel inputs expectations file.0 file.1

  has_provenance : (file : File) → IsProven panel expectations envelopes file → Proven file
  has_provenance file proven =
      let line = line_of 1 (lines_of inputs.provenance) envelopes places read proven.envelope
      proven.stands in
      record {
        expectation = proven.expectation;
        envelope = proven.envelope;
        fits = proven.fits;
        is_line = record { line = line.0; stands = line.1; reads = line.2 };
        meets = proven.meets;
      }

  is_proven : (file : File) → Proven file → IsProven panel expectations envelopes file
  is_proven file has = record {
    expectation = has.expectation;
    envelope = has.envelope;
    fits = has.fits;
    stands = read_of 1 (lines_of inputs.provenance) envelopes places read has.is_line.line
        has.envelope has.is_line.stands has.is_line.reads;
    meets = has.meets;
  }

  module _ (vouched : List Vouched) (found : List FileEvidence)
      (are : AreEvidence panel expectations vouched (lines_of inputs.provenance) envelopes
      (entries documents.delivered) found) where
    those : AreThose Proven (entries documents.delivered) are.proven
    those = those_alike (IsProven panel expectations envelopes) Proven has_provenance is_proven
        (entries documents.delivered) are.proven are.are_those

    pub are_evidence : AreFileEvidence panel vouched inputs documents found
    are_evidence = record { proven = are.proven; are_those = those; each = are.each }

    pub all_evidence : (evidence : Evidence) → IsMadeBy panel inputs documents evidence
        → AllZip (IsFileEvidence panel vouched (lines_of inputs.provenance) expectations)
        (entries documents.delivered) found
    all_evidence evidence made =
        subst (λ files. AllZip (IsFileEvidence panel vouched (lines_of inputs.provenance)
        expectations) files found)
        (those_all Proven (entries documents.delivered) are.proven those
        (λ file c. made.provenance file.0 file.1 (entry_known documents.delivered file c)))
        are.each
