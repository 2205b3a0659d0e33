-- By an entry that misses a condition, the log does not vouch.
use Rattle.std.proofs.Common.{◌≡◌, ℕ, Bool, true, false, true≢false, List, Option, Some, None, MatchOption, codes, inl, inr, ⊎_elim, refl, sym, ◌∙◌, subst}
use Rattle.serde_json.specs.Data.{Data}
use Rattle.it_base.specs.Document.{member_at}
use Rattle.it_log.specs.declared.log.Log.{Log}
use Rattle.it_log_entry.specs.Agreement.{BodyAgrees, IsReadKind, IsSpec}
use Rattle.it_log_entry.specs.EntryMisses.{EntryMisses, LacksCheckpoint, LeadsFrom}
use Rattle.it_log_entry.specs.Vouching.{EntryVouches, ProofHolds}
use Rattle.it_log_entry.specs.declared.entry.LogEntry.{LogEntry}
use Rattle.it_log_entry.specs.declared.inclusion_proof.InclusionProof.{InclusionProof}
use Rattle.it_log_entry.specs.declared.kind.EntryKind.{EntryKind}
use Rattle.it_log_entry.specs.declared.logged.Logged.{Logged}
use Rattle.it_log_entry.specs.declared.shortfall.EntryShortfall.{EntryShortfall}
use Rattle.it_log_entry.specs.declared.shortfall.EntryShortfall.TheVariants as shortfalls
use Rattle.it_log_entry.proofs.Parts.{body_missed}

-- two things that cannot both be so of a proof
both : (A B : InclusionProof → Type 0) (N : Type 0) → ((proof : InclusionProof) → A proof → B proof → ⊥)
    → (found : Option InclusionProof) → MatchOption found ⊥ A → MatchOption found N B → ⊥
both A B N clash None one two = one
both A B N clash (Some proof) one two = clash proof one two

needed : (needs_proof : Bool) (A : InclusionProof → Type 0) (found : Option InclusionProof) → found ≡ None
    → needs_proof ≡ true → MatchOption found (needs_proof ≡ false) A → ⊥
needed needs_proof A found none is included =
    true≢false (sym is ∙ subst (λ found. MatchOption found (needs_proof ≡ false) A) none included)

spec_kind : (kind : EntryKind) (logged : Logged) (found : Option Data) → MatchOption found ⊥ (λ d. IsSpec kind d logged)
    → IsReadKind kind
spec_kind kind logged None is = absurd is
spec_kind kind logged (Some d) is = ⊎_elim (λ dsse. inl dsse.0) (λ intoto. inr intoto.0) is

-- a body that is about a signature is of a kind that is read
read_kind : (kind : EntryKind) (body : List ℕ) (logged : Logged) → BodyAgrees kind body logged → IsReadKind kind
read_kind kind body logged agrees = spec_kind kind logged (member_at (codes "spec") agrees.0) agrees.2.spec_is

-- by an entry that misses a condition, the log does not vouch
pub not_vouching : (log : Log) (needs_proof : Bool) (entry : LogEntry) (logged : Logged) (s : EntryShortfall)
    → EntryMisses log needs_proof entry logged s → EntryVouches log needs_proof entry logged → ⊥
not_vouching log needs_proof entry logged shortfalls.Log m v = m v.id_is
not_vouching log needs_proof entry logged shortfalls.Time m v = m.1 v.counts
not_vouching log needs_proof entry logged shortfalls.Kind m v = m.2 (read_kind entry.kind entry.body logged v.agrees)
not_vouching log needs_proof entry logged (shortfalls.Body part) m v =
    body_missed entry.kind entry.body logged part m.3 v.agrees
not_vouching log needs_proof entry logged shortfalls.NoProof m v =
    needed needs_proof (λ proof. ProofHolds log.key entry.body proof) entry.proof m.1 m.2 v.included
not_vouching log needs_proof entry logged shortfalls.Inclusion m v =
    both (λ proof. ¬ LeadsFrom entry.body proof) (λ proof. ProofHolds log.key entry.body proof) (needs_proof ≡ false)
    (λ proof no holds. no holds.leads) entry.proof m.1 v.included
not_vouching log needs_proof entry logged (shortfalls.Checkpoint missed) m v =
    both (LacksCheckpoint log.key entry.body missed) (λ proof. ProofHolds log.key entry.body proof) (needs_proof ≡ false)
    (λ proof lacks holds. lacks.not_signed holds.checkpoint) entry.proof m.1 v.included
not_vouching log needs_proof entry logged shortfalls.Promise m v = m.2 v.promised

-- where the log vouches, an answer names no condition
pub none_where_vouching : (log : Log) (needs_proof : Bool) (entry : LogEntry) (logged : Logged) (missed : Option EntryShortfall)
    → MatchOption missed (EntryVouches log needs_proof entry logged) (EntryMisses log needs_proof entry logged)
    → EntryVouches log needs_proof entry logged → missed ≡ None
none_where_vouching log needs_proof entry logged None told vouches = refl
none_where_vouching log needs_proof entry logged (Some s) told vouches =
    absurd (not_vouching log needs_proof entry logged s told vouches)
