-- The signatures of owners (this profile's choice of who they are).
use Rattle.std.specs.Prelude.{ℕ, List}
use Rattle.it_dsse.specs.Panel.{Panel}
use Rattle.it_dsse.specs.declared.envelope.Envelope.{Envelope}
use Rattle.it_dsse.specs.declared.key_object.KeyObject.{KeyObject}
use Rattle.it_nonces.specs.EnvelopeUses.{EnvelopeUses}
use Rattle.it_nonces.specs.declared.nonce_use.NonceUse.{NonceUse}
use Rattle.it_nonces.specs.declared.signer.Role.TheVariants.{Owner}

-- those on an envelope of the owner under an id of the policy
abbrev pub OwnerUses : Panel → Envelope → List ℕ × KeyObject → List NonceUse → Type 0
OwnerUses panel envelope entry uses =
    EnvelopeUses panel envelope (record { role = Owner; id = entry.0 }) entry.1 uses
