-- What is said of what is not there: provenance, an expectation, or the record of an inspection
-- (words of this project).
use Rattle.std.specs.Prelude.{◌≡◌, ℕ, List, [], Option, Contains, length, map, nat_lt, take}
use Rattle.it_docs.specs.Policy.{PolicyOf}
use Rattle.it_docs.specs.declared.policy.Policy.{Policy}
use Rattle.it_prov_notes.specs.LaidOut.{IsAnEnvelope}
use Rattle.it_prov_notes.specs.Patterns.{patterns_note}
use Rattle.it_prov_notes.specs.declared.patterns.PatternsNote.{PatternsNote}
use Rattle.it_report.specs.declared.refusal.Fault.{Fault}
use Rattle.it_report.specs.declared.refusal.Fault.TheVariants as faults
use Rattle.it_verify.specs.declared.inputs.Inputs.{Inputs}
use Rattle.it_notes.specs.declared.record_note.RecordFlaw.{RecordFlaw}
use Rattle.it_notes.specs.declared.record_note.RecordFlaw.TheVariants as flaws

module _ (inputs : Inputs) (fault : Fault) where
  -- where a file has no provenance, that none was given: not a byte
  pub record TellsEmpty : Type 0 where
    pub path : List ℕ
    pub best : Option ℕ
    pub fault_is : fault ≡ faults.NoProvenance path best
    pub is_true : inputs.provenance ≡ []

  -- where no expectation speaks of a file, of which files the policy's expectations speak
  pub record TellsPatterns (note : PatternsNote) : Type 0 where
    pub policy : Policy
    pub path : List ℕ
    pub fault_is : fault ≡ faults.NoExpectation path
    pub is_policy : PolicyOf inputs.policy policy
    pub is_true : note ≡ patterns_note policy.expectations

  -- a record of this name is an envelope
  pub record IsRecordInEnvelope (name : List ℕ) : Type 0 where
    pub bytes : List ℕ
    pub stands : Contains inputs.records (name, bytes)
    pub is_envelope : IsAnEnvelope bytes

  -- why an inspection of this name has no record that counts
  abbrev pub TellsFlaw : List ℕ → RecordFlaw → Type 0
  TellsFlaw name flaws.NoRecords =
      (fault ≡ faults.RecordMissing name) × (inputs.records ≡ [])
  TellsFlaw name (flaws.OtherNames names others) = (fault ≡ faults.RecordMissing name)
      × (names ≡ map (λ given. given.0) (take 10 inputs.records))
      × (others ≡ nat_lt 10 (length inputs.records))
  TellsFlaw name flaws.InEnvelope = (fault ≡ faults.BadRecord name) × IsRecordInEnvelope name
