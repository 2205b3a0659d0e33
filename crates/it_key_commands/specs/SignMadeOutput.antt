-- The envelope of a body with a signature that was made elsewhere (DSSE v1.0, "Protocol"), and why
-- none is written (this profile's choice).
use Rattle.std.specs.Prelude.{◌≡◌, ℕ, List, [], ◌∷◌, ◌++◌, Some, None, codes}
use Rattle.std.specs.FinMap.{get}
use Rattle.it_base.specs.Table.{Named}
use Rattle.it_dsse.specs.Pae.{pae_of}
use Rattle.it_dsse.specs.Written.{written_form}
use Rattle.it_dsse.specs.declared.envelope.Envelope.{Envelope}
use Rattle.it_dsse.specs.declared.envelope.Signature.{Signature}
use Rattle.it_dsse.specs.declared.key_object.KeyObject.{KeyObject}
use Rattle.it_outcome.specs.Outcome.{IsOutputFault}
use Rattle.it_key_commands.specs.SignatureFlaw.{IsSignatureFlaw}
use Rattle.it_key_commands.specs.Signers.{IsKeyless, IsValidFor}
use Rattle.it_key_commands.specs.declared.fault.KeyFault.{KeyFault}
use Rattle.it_key_commands.specs.declared.fault.KeyFault.TheVariants.{
  Run,
  UnknownId,
  NoPublicKey,
  BadSignature,
  NotOneFile,
  BadFile,
}

-- the signature, with the id as its hint
abbrev pub made_signature : (id signature : List ℕ) → Signature
made_signature id signature = record { keyid = id; sig = signature }

-- the body of a type with that one signature
abbrev pub made_envelope : (id kind body signature : List ℕ) → Envelope
made_envelope id kind body signature =
    record {
      payload = body;
      payload_type = kind;
      signatures = made_signature id signature ∷ [];
    }

-- the id has an object of which P holds
abbrev pub HasObject : Named KeyObject → List ℕ → (KeyObject → Type 0) → Type 0
HasObject objects id P = (object : KeyObject) × (get objects id ≡ Some object) × P object

-- the signature is one of the body by the key of the id
abbrev pub IsMadeUnder : Named KeyObject → (id kind body signature : List ℕ) → Type 0
IsMadeUnder objects id kind body signature =
    HasObject objects id (λ object. IsValidFor object (pae_of kind body) signature)

-- the text is the written form of the body's envelope with that signature, which is valid, and a
-- line feed
pub record IsSignMadeOutput (objects : Named KeyObject) (id kind body signature text : List ℕ)
    : Type 0 where
  pub made : IsMadeUnder objects id kind body signature
  pub text_is : text ≡ written_form (made_envelope id kind body signature) ++ codes "\n"

-- the object describes a public key, for which the signature of the message is not valid
pub record IsNotValidFor (object : KeyObject) (message signature : List ℕ) : Type 0 where
  pub has_key : ¬ IsKeyless object
  pub bad : ¬ IsValidFor object message signature

-- a fault that the command may have, and what it says
module _ (objects : Named KeyObject) (id kind body signature : List ℕ) where
  abbrev pub IsSignMadeFault : KeyFault → Type 0
  IsSignMadeFault (Run fault) = IsOutputFault fault
  IsSignMadeFault UnknownId = get objects id ≡ None
  IsSignMadeFault NoPublicKey = HasObject objects id IsKeyless
  IsSignMadeFault (BadSignature flaw) =
      HasObject objects id (λ object. IsNotValidFor object (pae_of kind body) signature
      × IsSignatureFlaw object (pae_of kind body) body signature flaw)
  IsSignMadeFault NotOneFile = ⊥
  IsSignMadeFault (BadFile place fault) = ⊥
