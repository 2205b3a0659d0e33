-- An envelope with one more signature, made elsewhere (DSSE v1.0, "Protocol", by which several keys
-- may sign one payload), and why none is written (this profile's choice).
use Rattle.std.specs.Prelude.{◌≡◌, ℕ, List, [], ◌∷◌, ◌++◌, codes}
use Rattle.it_base.specs.Table.{Named}
use Rattle.it_dsse.specs.Countersigned.{HasOtherPayload, HasOtherType}
use Rattle.it_dsse.specs.Envelope.{EnvelopeOf}
use Rattle.it_dsse.specs.Written.{written_form}
use Rattle.it_dsse.specs.declared.envelope.Envelope.{Envelope}
use Rattle.it_dsse.specs.declared.envelope.Signature.{Signature}
use Rattle.it_dsse.specs.declared.key_object.KeyObject.{KeyObject}
use Rattle.it_outcome.specs.declared.outcome.RunFault.TheVariants.{
  NoEnvelope,
  OtherPayload,
  OtherType,
}
use Rattle.it_commands.specs.SignOntoOutput.{IsEnvelopeWith}
use Rattle.it_key_commands.specs.SignMadeOutput.{IsMadeUnder, IsSignMadeFault, made_signature}
use Rattle.it_key_commands.specs.declared.fault.KeyFault.{KeyFault}
use Rattle.it_key_commands.specs.declared.fault.KeyFault.TheVariants.{Run}

-- the envelope holds this body, of this type
pub record HoldsBody (kind body : List ℕ) (envelope : Envelope) : Type 0 where
  pub payload_type : envelope.payload_type ≡ kind
  pub payload : envelope.payload ≡ body

-- the envelope with one more signature, after those that it has
abbrev pub with_signature : Envelope → Signature → Envelope
with_signature envelope signature =
    record envelope { signatures = envelope.signatures ++ signature ∷ [] }

-- the text is the written form of the envelope in the bytes, with that valid signature of its body
-- added, and a line feed
pub record IsSignMadeOntoOutput (objects : Named KeyObject)
    (id kind body signature bytes text : List ℕ) : Type 0 where
  pub before : Envelope
  pub read : EnvelopeOf bytes before
  pub holds : HoldsBody kind body before
  pub made : IsMadeUnder objects id kind body signature
  pub text_is : text ≡ written_form (with_signature before (made_signature id signature))
      ++ codes "\n"

-- a fault that the command may have, and what it says of the bytes given as an envelope; it speaks
-- of the key and the signature only where the envelope holds the body
module _ (objects : Named KeyObject) (id kind body signature bytes : List ℕ) where
  abbrev pub IsSignMadeOntoFault : KeyFault → Type 0
  IsSignMadeOntoFault (Run NoEnvelope) = (envelope : Envelope) → ¬ EnvelopeOf bytes envelope
  IsSignMadeOntoFault (Run OtherType) = IsEnvelopeWith (HasOtherType kind) bytes
  IsSignMadeOntoFault (Run OtherPayload) = IsEnvelopeWith (HasOtherPayload kind body) bytes
  IsSignMadeOntoFault (Run fault) = IsSignMadeFault objects id kind body signature (Run fault)
  IsSignMadeOntoFault fault = IsEnvelopeWith (HoldsBody kind body) bytes
      × IsSignMadeFault objects id kind body signature fault
