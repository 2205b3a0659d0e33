-- Who owns the layout: its signatures by the keys of the policy's owners (in-toto 1.0 section 5.2;
-- who the owners are is this profile's choice).
use Rattle.std.specs.FinMap.{get}
use Rattle.std.specs.Prelude.{◌≡◌, ℕ, List, Some}
use Rattle.it_dsse.specs.Panel.{Panel}
use Rattle.it_dsse.specs.Signed.{IsSigner}
use Rattle.it_dsse.specs.declared.envelope.Envelope.{Envelope}
use Rattle.it_dsse.specs.declared.key_object.KeyObject.{KeyObject}
use Rattle.it_base.specs.Table.{Named}
use Rattle.it_report.specs.declared.refusal.Fault.TheVariants.{OwnerMissing}
use Rattle.it_report.specs.declared.refusal.Refusal.{Refusal}
use Rattle.it_verify.specs.Refusals.{whole}

-- the key of each owner signed the envelope
abbrev pub OwnersSign : Panel → Envelope → Named KeyObject → Type 0
OwnersSign panel envelope owners =
    (id : List ℕ) (object : KeyObject) → get owners id ≡ Some object
    → IsSigner panel envelope object id

-- an owner did not sign the layout
abbrev pub OwnerLacks : Panel → Envelope → List ℕ × KeyObject → Refusal → Type 0
OwnerLacks panel envelope owner refusal =
    (¬ IsSigner panel envelope owner.1 owner.0) × (refusal ≡ whole (OwnerMissing owner.0))
