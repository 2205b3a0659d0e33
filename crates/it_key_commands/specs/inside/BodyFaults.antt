-- Why bytes are not taken for an envelope of a body.
use Rattle.std.specs.Prelude.{ℕ, List}
use Rattle.it_dsse.specs.Countersigned.{HasOtherPayload, HasOtherType}
use Rattle.it_dsse.specs.Envelope.{EnvelopeOf}
use Rattle.it_dsse.specs.declared.envelope.Envelope.{Envelope}
use Rattle.it_outcome.specs.declared.outcome.RunFault.{RunFault}
use Rattle.it_outcome.specs.declared.outcome.RunFault.TheVariants.{
  OutOfMemory,
  NoEnvelope,
  OtherPayload,
  OtherType,
}
use Rattle.it_commands.specs.SignOntoOutput.{IsEnvelopeWith}

-- they are not an envelope, or one of another type or payload, or memory was refused
abbrev pub IsBodyFault : (kind body bytes : List ℕ) → RunFault → Type 0
IsBodyFault kind body bytes OutOfMemory = Unit {0}
IsBodyFault kind body bytes NoEnvelope = (envelope : Envelope) → ¬ EnvelopeOf bytes envelope
IsBodyFault kind body bytes OtherType = IsEnvelopeWith (HasOtherType kind) bytes
IsBodyFault kind body bytes OtherPayload = IsEnvelopeWith (HasOtherPayload kind body) bytes
IsBodyFault kind body bytes other = ⊥
