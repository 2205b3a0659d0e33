-- The signatures of somebody on a file.
use Rattle.std.proofs.Common.{◌≡◌, [], ℕ, List, Bor, Option, Some, None, is_some, true, false}
use Rattle.std.proofs.Common.{sym, subst}
use Rattle.it_base.specs.Finds.{FindsAs}
use Rattle.it_dsse.specs.Panel.{Panel}
use Rattle.it_dsse.specs.declared.envelope.Envelope.{Envelope}
use Rattle.it_dsse.specs.declared.key_object.KeyObject.{KeyObject}
use Rattle.it_chain.specs.Body.{as_body}
use Rattle.it_chain.specs.Candidate.{IsCandidate}
use Rattle.it_chain.specs.ClaimedFiles.{IsClaimed}
use Rattle.it_chain.specs.CountedBodies.{BodyOf}
use Rattle.it_chain.specs.declared.body.Body.{Body as Held}
use Rattle.it_chain.specs.declared.bundle.File.{File}
use Rattle.it_chain.proofs.Documents.{envelope_same}
use Rattle.it_nonces.specs.EnvelopeUses.{EnvelopeUses}
use Rattle.it_nonces.specs.declared.nonce_use.NonceUse.{NonceUse}
use Rattle.it_nonces.specs.declared.signer.Signer.{Signer}
use Rattle.it_nonce_uses.specs.FileUses.{FileUses, HoldsFor, IsClaimedAs}

module _ (panel : Panel) (step : List ℕ) (signer : Signer) (object : KeyObject) (file : File) where
  -- a file that is not claimed, or is no envelope
  pub unclaimed : ((envelope : Envelope) → ¬ IsClaimedAs step file envelope)
      → FileUses panel step signer object file []
  unclaimed none = record {
    some = λ envelope holds. absurd (none envelope holds.claimed_as);
    none = λ _. λ i. [];
  }

  module _ (envelope : Envelope) (claimed : IsClaimedAs step file envelope) where
    one_envelope : (other : Envelope) → HoldsFor step file other → envelope ≡ other
    one_envelope other holds = envelope_same file.bytes envelope other
        claimed.is_candidate.is_envelope holds.claimed_as.is_candidate.is_envelope

    some_of : (uses : List NonceUse) → EnvelopeUses panel envelope signer object uses
        → (other : Envelope) → HoldsFor step file other
        → EnvelopeUses panel other signer object uses
    some_of uses are other holds =
        subst (λ (e : Envelope). EnvelopeUses panel e signer object uses)
        (one_envelope other holds) are

    -- one on which nothing is signed
    pub no_uses : (uses : List NonceUse) → uses ≡ []
        → EnvelopeUses panel envelope signer object uses
        → FileUses panel step signer object file uses
    no_uses uses none are = record {
      some = some_of uses are;
      none = λ _. none;
    }

    -- one that holds a body
    with_body : (uses : List NonceUse) (body : Held)
        → BodyOf step envelope.payload (as_body body)
        → EnvelopeUses panel envelope signer object uses
        → FileUses panel step signer object file uses
    with_body uses body reads are = record {
      some = some_of uses are;
      none = λ never. absurd (never envelope
          (record { claimed_as = claimed; body = as_body body; reads = reads }));
    }

    -- and one that holds none
    bodyless : FindsAs as_body (BodyOf step envelope.payload) None
        → FileUses panel step signer object file []
    bodyless no_body = record {
      some = λ other holds. absurd (no_body holds.body
          (subst (λ (e : Envelope). BodyOf step e.payload holds.body)
          (sym (one_envelope other holds)) holds.reads));
      none = λ _. λ i. [];
    }

    -- one in which a body is looked for, and not found
    pub not_found : (found : Option Held) → FindsAs as_body (BodyOf step envelope.payload) found
        → is_some found ≡ false → FileUses panel step signer object file []
    not_found None no_body none = bodyless no_body
    not_found (Some body) reads none = cc

    -- and one in which it is found
    pub body_found : (uses : List NonceUse) (found : Option Held)
        → FindsAs as_body (BodyOf step envelope.payload) found → is_some found ≡ true
        → EnvelopeUses panel envelope signer object uses
        → FileUses panel step signer object file uses
    body_found uses None no_body some are = cc
    body_found uses (Some body) reads some are = with_body uses body reads are

-- what is found of a file that is claimed
pub claimed_found : (step : List ℕ) (file : File) → IsClaimed step file.name
    → (found : Option (Bor Envelope))
    → FindsAs (λ envelope. envelope.now) (IsCandidate file.bytes) found
    → FindsAs (λ envelope. envelope.now) (IsClaimedAs step file) found
claimed_found step file claimed None none = λ envelope is. none envelope is.is_candidate
claimed_found step file claimed (Some envelope) is =
    record { claimed = claimed; is_candidate = is }
