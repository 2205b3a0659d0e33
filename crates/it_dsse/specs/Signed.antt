-- Who signed an envelope (DSSE v1.0, "Protocol").
use Rattle.std.specs.Prelude.{◌≡◌, ◌⊎◌, ℕ, suc, List, [], ◌∷◌, Bool, ◌||◌, if◌then◌else◌, IsTrue}
use Rattle.std.specs.Prelude.{Any}
use Rattle.std.specs.Prelude.{Option, Some, None, filter}
use Rattle.std.specs.Str.{bytes_eq}
use Rattle.it_dsse.specs.Pae.{pae_of}
use Rattle.it_dsse.specs.Panel.{KeyNumber, Panel}
use Rattle.it_dsse.specs.declared.envelope.Envelope.{Envelope}
use Rattle.it_dsse.specs.declared.envelope.Signature.{Signature}
use Rattle.it_dsse.specs.declared.key_object.KeyObject.{KeyObject}

-- a signature is admitted for an id: its hint is empty or the id (this profile's choice; DSSE v1.0
-- calls keyid an unauthenticated hint)
abbrev pub is_admitted : List ℕ → Signature → Bool
is_admitted id signature = bytes_eq signature.keyid [] || bytes_eq signature.keyid id

-- what the signatures of an envelope sign
abbrev pub message_of : Envelope → List ℕ
message_of envelope = pae_of envelope.payload_type envelope.payload

-- a signature of a message is admitted for an id, and is valid for the key of number n
pub record Vouches (panel : Panel) (id : List ℕ) (n : KeyNumber) (message : List ℕ)
    (signature : Signature) : Type 0 where
  pub admitted : IsTrue (is_admitted id signature)
  pub valid : IsTrue (panel.is_valid n message signature.sig)

-- the key of number n, which an id and an object name, signed the envelope: some signature vouches
pub record Signed (panel : Panel) (envelope : Envelope) (id : List ℕ) (object : KeyObject)
    (n : KeyNumber) : Type 0 where
  pub key : panel.key_of id object ≡ Some n
  pub signature : Any (Vouches panel id n (message_of envelope)) envelope.signatures

-- the key under an id signed the envelope
abbrev pub IsSigner : Panel → Envelope → KeyObject → List ℕ → Type 0
IsSigner panel envelope object id = (n : KeyNumber) × Signed panel envelope id object n

-- the elements for which P holds, in their order, and no others
abbrev pub AreThose : {X : Type 0} → (X → Type 0) → List X → List X → Type 0
AreThose P [] kept = kept ≡ []
AreThose P (x ∷ xs) kept =
    (P x × ((rest : _) × (kept ≡ x ∷ rest) × AreThose P xs rest)) ⊎ (¬ P x × AreThose P xs kept)

-- the place, from 1, of the first element that passes the test, or how many there are
unfoldable pub first_place : {X : Type 0} → (X → Bool) → List X → ℕ
first_place p [] = 0
first_place p (x ∷ xs) = if p x then 1 else suc (first_place p xs)

-- how many signatures of a message are tried for the key of number n: the admitted ones, up to the
-- first valid
abbrev pub tries_for : Panel → List ℕ → KeyNumber → List ℕ → List Signature → ℕ
tries_for panel id n message signatures =
    first_place (λ signature. panel.is_valid n message signature.sig)
    (filter (is_admitted id) signatures)

abbrev tries_if : (KeyNumber → ℕ) → Option KeyNumber → ℕ
tries_if tries None = 0
tries_if tries (Some n) = tries n

-- how many signatures are tried: none where the panel knows no key
abbrev pub tries : Panel → Envelope → List ℕ → KeyObject → ℕ
tries panel envelope id object =
    tries_if (λ n. tries_for panel id n (message_of envelope) envelope.signatures)
    (panel.key_of id object)
