-- Who signed an envelope by what lines vouch for.
use Rattle.std.proofs.Common.{◌≡◌, ◌⊎◌, ℕ, List, [], ◌∷◌, Bool, true, false, ◌&&◌, Option}
use Rattle.std.proofs.Common.{None, Some, IsTrue, Contains, Any, if◌then◌else◌, option_map, refl}
use Rattle.std.proofs.Common.{inl, inr}
use Rattle.std.specs.FinMap.{entries}
use Rattle.std.specs.Option.{option_or}
use Rattle.std.specs.Str.{bytes_eq}
use Rattle.it_base.proofs.Members.{in_head, in_tail}
use Rattle.it_docs.specs.declared.policy.Builder.{Builder}
use Rattle.it_dsse.specs.Panel.{Panel, panel_of}
use Rattle.it_dsse.specs.Signed.{is_admitted, message_of}
use Rattle.it_dsse.specs.declared.envelope.Envelope.{Envelope}
use Rattle.it_dsse.specs.declared.envelope.Signature.{Signature}
use Rattle.it_dsse.specs.declared.key_object.KeyObject.{KeyObject}
use Rattle.it_identity.specs.Name.{number_of}
use Rattle.it_prov.specs.Meets.{SignedByBuilder}
use Rattle.it_digest.proofs.Entries.{entry_known}
use Rattle.it_vouched.specs.Check.{vouched_check}
use Rattle.it_vouched.specs.ObjectIdentity.{describes}
use Rattle.it_vouched.specs.declared.vouched.Vouched.{Vouched}
use Rattle.it_vouched.proofs.Saying.{both, equal_bytes, is_valid}
use Rattle.it_vouched.proofs.TestedIdentity.{described}
use Rattle.it_file_evidence.specs.Laws.{SignerHasSigned}
use Rattle.it_file_evidence.specs.Signer.{first_answer, object_for, object_of, object_signing}
use Rattle.it_file_evidence.specs.Signer.{signer_by, signer_of}

-- ---- answers
one_of : {Y : Type 0} (first later : Option Y) (y : Y) → option_or first later ≡ Some y
    → (first ≡ Some y) ⊎ (later ≡ Some y)
one_of None later y e = inr e
one_of (Some x) later y e = inl e

-- the first answer is that of some element
answered : {X Y : Type 0} (f : X → Option Y) (xs : List X) (y : Y) → first_answer f xs ≡ Some y
    → (x : X) × Contains xs x × (f x ≡ Some y)
answered f [] y e = absurd (cc e)
answered f (x ∷ xs) y e = elim (one_of (f x) (first_answer f xs) y e) [
  | inl is ↦ (x, in_head x xs, is)
  | inr later ↦ (let found = answered f xs y later in
      (found.0, in_tail x xs found.0 found.1, found.2))
]

mapped : {X Y : Type 0} (f : X → Y) (found : Option X) (y : Y) → option_map f found ≡ Some y
    → (x : X) × (found ≡ Some x)
mapped f None y e = absurd (cc e)
mapped f (Some x) y e = (x, refl)

where_true : {Y : Type 0} (b : Bool) (found : Option Y) (y : Y)
    → (if b then found else None) ≡ Some y → (b ≡ true) × (found ≡ Some y)
where_true true found y e = (refl, e)
where_true false found y e = absurd (cc e)

-- ---- who signed
module _ (vouched : List Vouched) (builders : List Builder) (id : List ℕ) (envelope : Envelope)
    (v : Vouched) (is_line : Contains vouched v) (signature : Signature)
    (stands : Contains envelope.signatures signature) where
  abbrev panel : Panel
  panel = panel_of (vouched_check vouched ∷ [])

  abbrev Signs : Builder → Type 0
  Signs builder = (builder.id ≡ id) × SignedByBuilder panel envelope builder

  module _ (signature_is : v.signature ≡ signature.sig) (message_is : v.message ≡ message_of envelope)
    where
      valid : IsTrue ((vouched_check vouched).is_valid (number_of v.identity) (message_of envelope)
          signature.sig)
      valid = is_valid vouched (number_of v.identity) (message_of envelope) signature.sig (
        is_line.0,
        v,
        is_line.1,
        is_line.2,
        record { number_is = refl; message_is = message_is; signature_is = signature_is },
      )

      by_key : (builder : Builder) (key : List ℕ × KeyObject) → Contains (entries builder.keys) key
          → is_admitted key.0 signature ≡ true → describes key.1 v.identity ≡ true
          → SignedByBuilder panel envelope builder
      by_key builder key is_key admitted describes_it = record {
        id = key.0;
        object = key.1;
        key = (0, number_of v.identity);
        is_key = entry_known builder.keys key is_key;
        signed = record {
          key = rw (described key.1 v.identity describes_it) refl;
          signature = (
            stands.0,
            signature,
            stands.1,
            stands.2,
            record { admitted = admitted; valid = valid },
          );
        };
      }

      by_builder : (builder : Builder) (object : KeyObject)
          → object_of id signature v.identity builder ≡ Some object → Signs builder
      by_builder builder object e =
          let named = where_true (bytes_eq builder.id id)
          (first_answer (object_for signature v.identity) (entries builder.keys)) object e in
          let key = answered (object_for signature v.identity) (entries builder.keys) object named.1 in
          let is = where_true (is_admitted key.0.0 signature && describes key.0.1 v.identity)
          (Some key.0.1) object key.2 in
          let tests = both (is_admitted key.0.0 signature) (describes key.0.1 v.identity) is.0 in (
            equal_bytes builder.id id named.0,
            by_key builder key.0 key.1 tests.0 tests.1,
          )

  by_line : (object : KeyObject)
      → object_signing builders id (message_of envelope) v signature ≡ Some object
      → Any Signs builders
  by_line object e =
      let same = where_true
      (bytes_eq v.signature signature.sig && bytes_eq v.message (message_of envelope))
      (first_answer (object_of id signature v.identity) builders) object e in
      let tests = both (bytes_eq v.signature signature.sig)
      (bytes_eq v.message (message_of envelope)) same.0 in
      let found = answered (object_of id signature v.identity) builders object same.1 in
      let c = found.1 in (
        c.0,
        found.0,
        c.1,
        c.2,
        by_builder (equal_bytes v.signature signature.sig tests.0)
            (equal_bytes v.message (message_of envelope) tests.1) found.0 object found.2,
      )

pub signer_has_signed : SignerHasSigned
signer_has_signed vouched builders id envelope signer e =
    let line = answered (signer_by builders id envelope) vouched signer e in
    let signing = object_signing builders id (message_of envelope) line.0 in
    let object = mapped (signer_of line.0.time) (first_answer signing envelope.signatures) signer
    line.2 in
    let signature = answered signing envelope.signatures object.0 object.1 in
    by_line vouched builders id envelope line.0 line.1 signature.0 signature.1 object.0 signature.2
