-- With a log, an entry misses at most one condition first.
use Rattle.std.proofs.Common.{◌≡◌, ℕ, zero, suc, ◌+◌, Bool, false, true≢false, List, Option, Some, None, MatchOption, codes, ◌⊎◌, inl, inr, ⊎_elim, refl, sym, ap, subst, ◌∙◌}
use Rattle.it_issued.specs.Misses.{IsFirstMissed}
use Rattle.it_issued.proofs.Missed.{HaveOwnPlaces, MetBelow, none_below, one_missed, one_more}
use Rattle.it_log.specs.declared.log.Log.{Log}
use Rattle.serde_json.specs.Data.{Data}
use Rattle.it_base.specs.Document.{member_at}
use Rattle.it_log_entry.specs.Agreement.{BodyAgrees, IsReadKind, IsSpec}
use Rattle.it_log_entry.specs.BodyMisses.{BodySays, SaysCertificate, SaysPayload, SaysSignature, SaysType}
use Rattle.it_log_entry.specs.BodyParts.{BodyParts, Parts}
use Rattle.it_log_entry.specs.Checkpoint.{IsCheckpoint, IsSignedCheckpoint}
use Rattle.it_log_entry.specs.CheckpointMisses.{NoteSays}
use Rattle.it_log_entry.specs.EntryMisses.{EntryMisses, IsInTime, IsOf, LacksCheckpoint, LeadsFrom, SpeaksOf}
use Rattle.it_log_entry.specs.Place.{place_of}
use Rattle.it_log_entry.specs.Stamp.{IsPromised}
use Rattle.it_log_entry.specs.Vouching.{ProofHolds}
use Rattle.it_log_entry.specs.declared.body_shortfall.BodyShortfall.{BodyShortfall}
use Rattle.it_log_entry.specs.declared.body_shortfall.BodyShortfall.TheVariants as parts
use Rattle.it_log_entry.specs.declared.note_shortfall.NoteShortfall.{NoteShortfall}
use Rattle.it_log_entry.specs.declared.note_shortfall.NoteShortfall.TheVariants as checkpoints
use Rattle.it_log_entry.specs.declared.entry.LogEntry.{LogEntry}
use Rattle.it_log_entry.specs.declared.inclusion_proof.InclusionProof.{InclusionProof}
use Rattle.it_log_entry.specs.declared.kind.EntryKind.{EntryKind}
use Rattle.it_log_entry.specs.declared.logged.Logged.{Logged}
use Rattle.it_log_entry.specs.declared.shortfall.EntryShortfall.{EntryShortfall}
use Rattle.it_log_entry.specs.declared.shortfall.EntryShortfall.TheVariants as shortfalls
use Rattle.it_log_entry.proofs.Parts.{agreeing}

-- ---- places
abbrev at_place : ℕ → EntryShortfall
at_place zero = shortfalls.Log
at_place (suc zero) = shortfalls.Time
at_place (suc (suc zero)) = shortfalls.Kind
at_place (suc (suc (suc n))) = later n
  where
    latest : ℕ → EntryShortfall
    latest zero = shortfalls.Inclusion
    latest (suc zero) = shortfalls.Checkpoint checkpoints.Form
    latest (suc (suc zero)) = shortfalls.Checkpoint checkpoints.Root
    latest (suc (suc (suc zero))) = shortfalls.Checkpoint checkpoints.Signature
    latest (suc (suc (suc (suc n)))) = shortfalls.Promise

    later : ℕ → EntryShortfall
    later zero = shortfalls.Body parts.Form
    later (suc zero) = shortfalls.Body parts.Payload
    later (suc (suc zero)) = shortfalls.Body parts.PayloadType
    later (suc (suc (suc zero))) = shortfalls.Body parts.Signature
    later (suc (suc (suc (suc zero)))) = shortfalls.Body parts.Certificate
    later (suc (suc (suc (suc (suc zero))))) = shortfalls.NoProof
    later (suc (suc (suc (suc (suc (suc n)))))) = latest n

at_its_place : (s : EntryShortfall) → at_place (place_of s) ≡ s
at_its_place shortfalls.Log = refl
at_its_place shortfalls.Time = refl
at_its_place shortfalls.Kind = refl
at_its_place (shortfalls.Body parts.Form) = refl
at_its_place (shortfalls.Body parts.Payload) = refl
at_its_place (shortfalls.Body parts.PayloadType) = refl
at_its_place (shortfalls.Body parts.Signature) = refl
at_its_place (shortfalls.Body parts.Certificate) = refl
at_its_place shortfalls.NoProof = refl
at_its_place shortfalls.Inclusion = refl
at_its_place (shortfalls.Checkpoint checkpoints.Form) = refl
at_its_place (shortfalls.Checkpoint checkpoints.Root) = refl
at_its_place (shortfalls.Checkpoint checkpoints.Signature) = refl
at_its_place shortfalls.Promise = refl

own_places : HaveOwnPlaces EntryShortfall place_of
own_places = λ s t same. sym (at_its_place s) ∙ ap at_place same ∙ at_its_place t

-- ---- what is so of proofs
proof_as : (A B : InclusionProof → Type 0) (N M : Type 0) → (N → M) → ((p : InclusionProof) → A p → B p) → (found : Option InclusionProof)
    → MatchOption found N A → MatchOption found M B
proof_as A B N M none some None h = none h
proof_as A B N M none some (Some p) h = some p h

clash : (A B : InclusionProof → Type 0) (M : Type 0) → ((p : InclusionProof) → A p → B p → ⊥) → (found : Option InclusionProof)
    → MatchOption found ⊥ A → MatchOption found M B → ⊥
clash A B M both None one two = one
clash A B M both (Some p) one two = both p one two

-- a body that is about a signature is of a kind that is read
spec_kind : (kind : EntryKind) (logged : Logged) (found : Option Data) → MatchOption found ⊥ (λ d. IsSpec kind d logged)
    → IsReadKind kind
spec_kind kind logged None is = absurd is
spec_kind kind logged (Some d) is = ⊎_elim (λ dsse. inl dsse.0) (λ intoto. inr intoto.0) is

read_kind : (kind : EntryKind) (body : List ℕ) (logged : Logged) → BodyAgrees kind body logged → IsReadKind kind
read_kind kind body logged agrees = spec_kind kind logged (member_at (codes "spec") agrees.0) agrees.2.spec_is

-- a checkpoint of a tree is one of any tree
of_a_tree : (note : List ℕ) (size : ℕ) (root : List ℕ) → NoteSays note (λ lines. IsCheckpoint lines size root)
    → NoteSays note (λ lines. Unit {0})
of_a_tree note size root says = record {
  lines = says.lines;
  signatures = says.signatures;
  note_is = says.note_is;
  tree = says.tree;
  says = tt;
}

module _ (log : Log) (needs : Bool) (entry : LogEntry) (logged : Logged) where
  abbrev IsSigned : InclusionProof → Type 0
  IsSigned p = IsSignedCheckpoint log.key p.checkpoint p.size p.root

  abbrev BodyMet : BodyShortfall → Type 0
  BodyMet parts.Form = (said : Parts) × BodyParts entry.kind entry.body said
  BodyMet parts.Payload = BodySays entry.kind entry.body (SaysPayload logged)
  BodyMet parts.PayloadType = BodySays entry.kind entry.body (SaysType logged)
  BodyMet parts.Signature = BodySays entry.kind entry.body (SaysSignature entry.kind logged)
  BodyMet parts.Certificate = BodySays entry.kind entry.body (SaysCertificate entry.kind logged)

  -- of a checkpoint that is signed, all is so
  abbrev CheckpointMet : NoteShortfall → InclusionProof → Type 0
  CheckpointMet checkpoints.Form p = IsSigned p ⊎ NoteSays p.checkpoint (λ lines. Unit {0})
  CheckpointMet checkpoints.Root p = IsSigned p ⊎ NoteSays p.checkpoint (λ lines. IsCheckpoint lines p.size p.root)
  CheckpointMet checkpoints.Signature p = IsSigned p

  -- what is so where the condition is met
  abbrev Met : EntryShortfall → Type 0
  Met shortfalls.Log = IsOf log entry
  Met shortfalls.Time = IsInTime log entry
  Met shortfalls.Kind = IsReadKind entry.kind
  Met (shortfalls.Body part) = BodyMet part
  Met shortfalls.NoProof = MatchOption entry.proof (needs ≡ false) (λ p. Unit)
  Met shortfalls.Inclusion = MatchOption entry.proof Unit (LeadsFrom entry.body)
  Met (shortfalls.Checkpoint missed) = MatchOption entry.proof Unit (CheckpointMet missed)
  Met shortfalls.Promise = IsPromised log.key entry

  lacking : (missed : NoteShortfall) (p : InclusionProof) → LacksCheckpoint log.key entry.body missed p
      → ¬ CheckpointMet missed p
  lacking checkpoints.Form p lacks (inl signed) = lacks.not_signed signed
  lacking checkpoints.Form p lacks (inr says) = lacks.misses says
  lacking checkpoints.Root p lacks (inl signed) = lacks.not_signed signed
  lacking checkpoints.Root p lacks (inr says) = lacks.misses.1 says
  lacking checkpoints.Signature p lacks signed = lacks.not_signed signed

  not_met : (s : EntryShortfall) → EntryMisses log needs entry logged s → ¬ Met s
  not_met shortfalls.Log m met = m met
  not_met shortfalls.Time m met = m.1 met
  not_met shortfalls.Kind m met = m.2 met
  not_met (shortfalls.Body parts.Form) m met = m.3 met.0 met.1
  not_met (shortfalls.Body parts.Payload) m met = m.3.1 met
  not_met (shortfalls.Body parts.PayloadType) m met = m.3.1 met
  not_met (shortfalls.Body parts.Signature) m met = m.3.2 met
  not_met (shortfalls.Body parts.Certificate) m met = m.3.3 met
  not_met shortfalls.NoProof m met =
      true≢false (sym m.2 ∙ subst (λ (found : Option InclusionProof). MatchOption found (needs ≡ false) (λ p. Unit)) m.1 met)
  not_met shortfalls.Inclusion m met =
      clash (λ p. ¬ LeadsFrom entry.body p) (LeadsFrom entry.body) Unit (λ p no yes. no yes) entry.proof m.1 met
  not_met (shortfalls.Checkpoint missed) m met =
      clash (LacksCheckpoint log.key entry.body missed) (CheckpointMet missed) Unit (lacking missed) entry.proof m.1 met
  not_met shortfalls.Promise m met = m.2 met

  more : (s : EntryShortfall) → Met s → MetBelow EntryShortfall place_of Met (place_of s)
      → MetBelow EntryShortfall place_of Met (place_of s + 1)
  more s met before = one_more EntryShortfall place_of Met own_places s met before

  of_log : IsOf log entry → MetBelow EntryShortfall place_of Met 1
  of_log is = more shortfalls.Log is (none_below EntryShortfall place_of Met)

  in_time : IsOf log entry → IsInTime log entry → MetBelow EntryShortfall place_of Met 2
  in_time is counts = more shortfalls.Time counts (of_log is)

  read : IsOf log entry → IsInTime log entry → IsReadKind entry.kind → MetBelow EntryShortfall place_of Met 3
  read is counts kind = more shortfalls.Kind kind (in_time is counts)

  with_parts : IsOf log entry → IsInTime log entry → IsReadKind entry.kind → BodyMet parts.Form
      → MetBelow EntryShortfall place_of Met 4
  with_parts is counts kind met = more (shortfalls.Body parts.Form) met (read is counts kind)

  with_payload : IsOf log entry → IsInTime log entry → IsReadKind entry.kind → BodyMet parts.Payload
      → MetBelow EntryShortfall place_of Met 5
  with_payload is counts kind met =
      more (shortfalls.Body parts.Payload) met (with_parts is counts kind (met.0, met.1))

  with_type : IsOf log entry → IsInTime log entry → IsReadKind entry.kind → BodyMet parts.Payload
      → BodyMet parts.PayloadType → MetBelow EntryShortfall place_of Met 6
  with_type is counts kind payload met =
      more (shortfalls.Body parts.PayloadType) met (with_payload is counts kind payload)

  speaking : SpeaksOf log entry logged → MetBelow EntryShortfall place_of Met 8
  speaking speaks =
      let kind = read_kind entry.kind entry.body logged speaks.agrees in
      let (said, is, says) = agreeing entry.kind entry.body logged speaks.agrees in
      more (shortfalls.Body parts.Certificate) (said, is, says.certificate)
      (more (shortfalls.Body parts.Signature) (said, is, says.signature)
      (with_type speaks.id_is speaks.counts kind (said, is, says.payload) (said, is, says.payload_type)))

  included : SpeaksOf log entry logged → (missed : NoteShortfall)
      → MatchOption entry.proof ⊥ (LacksCheckpoint log.key entry.body missed) → MetBelow EntryShortfall place_of Met 10
  included speaks missed lacks =
      more shortfalls.Inclusion
      (proof_as (LacksCheckpoint log.key entry.body missed) (LeadsFrom entry.body) ⊥ Unit (λ no. tt) (λ p h. h.leads) entry.proof lacks)
      (more shortfalls.NoProof
      (proof_as (LacksCheckpoint log.key entry.body missed) (λ p. Unit) ⊥ (needs ≡ false) (λ no. absurd no) (λ p h. tt) entry.proof lacks)
      (speaking speaks))

  lacking_met : (missed met : NoteShortfall)
      → ((p : InclusionProof) → LacksCheckpoint log.key entry.body missed p → CheckpointMet met p)
      → MatchOption entry.proof ⊥ (LacksCheckpoint log.key entry.body missed)
      → MatchOption entry.proof Unit (CheckpointMet met)
  lacking_met missed met from lacks =
      proof_as (LacksCheckpoint log.key entry.body missed) (CheckpointMet met) ⊥ Unit (λ no. tt) from entry.proof lacks

  before : (s : EntryShortfall) → EntryMisses log needs entry logged s → MetBelow EntryShortfall place_of Met (place_of s)
  before shortfalls.Log m = none_below EntryShortfall place_of Met
  before shortfalls.Time m = of_log m.0
  before shortfalls.Kind m = in_time m.0 m.1
  before (shortfalls.Body parts.Form) m = read m.0 m.1 m.2
  before (shortfalls.Body parts.Payload) m = with_parts m.0 m.1 m.2 m.3.0
  before (shortfalls.Body parts.PayloadType) m = with_payload m.0 m.1 m.2 m.3.0
  before (shortfalls.Body parts.Signature) m = with_type m.0 m.1 m.2 m.3.0 m.3.1
  before (shortfalls.Body parts.Certificate) m =
      more (shortfalls.Body parts.Signature) m.3.2 (with_type m.0 m.1 m.2 m.3.0 m.3.1)
  before shortfalls.NoProof m = speaking m.0
  before shortfalls.Inclusion m =
      more shortfalls.NoProof
      (proof_as (λ p. ¬ LeadsFrom entry.body p) (λ p. Unit) ⊥ (needs ≡ false) (λ no. absurd no) (λ p h. tt) entry.proof m.1)
      (speaking m.0)
  before (shortfalls.Checkpoint checkpoints.Form) m = included m.0 checkpoints.Form m.1
  before (shortfalls.Checkpoint checkpoints.Root) m =
      more (shortfalls.Checkpoint checkpoints.Form)
      (lacking_met checkpoints.Root checkpoints.Form (λ p lacks. inr lacks.misses.0) m.1)
      (included m.0 checkpoints.Root m.1)
  before (shortfalls.Checkpoint checkpoints.Signature) m =
      more (shortfalls.Checkpoint checkpoints.Root)
      (lacking_met checkpoints.Signature checkpoints.Root (λ p lacks. inr lacks.misses) m.1)
      (more (shortfalls.Checkpoint checkpoints.Form)
      (lacking_met checkpoints.Signature checkpoints.Form (λ p lacks. inr (of_a_tree p.checkpoint p.size p.root lacks.misses)) m.1)
      (included m.0 checkpoints.Signature m.1))
  before shortfalls.Promise m =
      let Holds : InclusionProof → Type 0 = λ p. ProofHolds log.key entry.body p in
      more (shortfalls.Checkpoint checkpoints.Signature)
      (proof_as Holds IsSigned (needs ≡ false) Unit (λ no. tt) (λ p h. h.checkpoint) entry.proof m.1)
      (more (shortfalls.Checkpoint checkpoints.Root)
      (proof_as Holds (CheckpointMet checkpoints.Root) (needs ≡ false) Unit (λ no. tt) (λ p h. inl h.checkpoint) entry.proof m.1)
      (more (shortfalls.Checkpoint checkpoints.Form)
      (proof_as Holds (CheckpointMet checkpoints.Form) (needs ≡ false) Unit (λ no. tt) (λ p h. inl h.checkpoint) entry.proof m.1)
      (more shortfalls.Inclusion (proof_as Holds (LeadsFrom entry.body) (needs ≡ false) Unit (λ no. tt) (λ p h. h.leads) entry.proof m.1)
      (more shortfalls.NoProof (proof_as Holds (λ p. Unit) (needs ≡ false) (needs ≡ false) (λ no. no) (λ p h. tt) entry.proof m.1)
      (speaking m.0)))))

  first_missed : (s : EntryShortfall) → EntryMisses log needs entry logged s → IsFirstMissed EntryShortfall place_of Met s
  first_missed s m = record { missed = not_met s m; before = before s m }

  pub one_entry_missed : (s t : EntryShortfall) → EntryMisses log needs entry logged s → EntryMisses log needs entry logged t → s ≡ t
  one_entry_missed s t one two = one_missed EntryShortfall place_of Met own_places s t (first_missed s one) (first_missed t two)
