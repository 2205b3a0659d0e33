-- What the key of an object answers, beside what the object describes.
use Rattle.std.proofs.Common.{◌≡◌, ◌∙◌, ◌↔◌, ◌&&◌, ℕ, List, Bool, false, true, IsTrue, Some, None, sym}
use Rattle.std.proofs.Common.{subst}
use Rattle.std.proofs.lemmas.Bool.{and_from, and_parts}
use Rattle.std.proofs.lemmas.List.Folds.{Any-from_list_any, list_any-from_Any}
use Rattle.std.proofs.lemmas.Option.{same_Some}
use Rattle.it_dsse.specs.Signed.{is_admitted}
use Rattle.it_dsse.specs.Vouched.{is_vouched_by}
use Rattle.it_dsse.specs.declared.envelope.Signature.{Signature}
use Rattle.it_dsse.specs.declared.key_object.KeyObject.{KeyObject}
use Rattle.it_public_keys.specs.DecodedKeys.{key_in}
use Rattle.it_public_keys.specs.KeyNames.{IsOfBytes}
use Rattle.it_public_keys.specs.Keys.{IsSignature}
use Rattle.it_public_keys.specs.NamedKeys.{is_valid_for, number_of, public_key_check}
use Rattle.it_public_keys.specs.Validity.{is_signature_of}
use Rattle.it_public_keys.specs.declared.key.Key.{Key}
use Rattle.it_public_keys.proofs.Described.{decoded_is_described}
use Rattle.it_public_keys.proofs.NamedKeys.{valid_by_number}
use Rattle.it_public_keys.proofs.Testing.{test_is_signature}
use Rattle.it_key_commands.specs.Signers.{Describes, IsKeyless, IsValidFor, SignedUnder}
use Rattle.it_key_commands.specs.SignMadeOutput.{IsNotValidFor}

module _ (object : KeyObject) where
  there : (key : Key) → Describes object key → key_in object ≡ Some key
  there key described =
      (decoded_is_described object key).1 (described.is_key, described.written)

  -- where no key is found, the object describes none
  pub keyless : None ≡ key_in object → IsKeyless object
  keyless none key described =
      let bad : None ≡ Some key = none ∙ there key described in cc

  -- a key that is found is described
  pub found : (key : Key) → Some key ≡ key_in object → Describes object key
  found key is =
      let both = (decoded_is_described object key).0 (sym is) in
      record { written = both.1; is_key = both.0 }

  -- an object describes one key at most
  one_key : (one other : Key) → Describes object one → Describes object other → one ≡ other
  one_key one other first second =
      same_Some one other (sym (there one first) ∙ there other second)

module _ (object : KeyObject) (key : Key) (described : Describes object key) (message : List ℕ) where
  -- by that key it is said which signatures are valid
  pub valid_by_key : (sig : List ℕ)
      → IsTrue (is_signature_of key message sig) ↔ IsValidFor object message sig
  valid_by_key sig = (
    λ passes. record {
      key = key;
      described = described;
      signs = (test_is_signature key message sig).0 passes;
    },
    λ valid. (let same : valid.key ≡ key = one_key object valid.key key valid.described described in
        (test_is_signature key message sig).1
        (subst (λ k. IsSignature k message sig) same valid.signs)),
  )

  -- a signature that is refused is not valid for the key
  pub refused_by_key : (sig : List ℕ) → is_signature_of key message sig ≡ false
      → IsNotValidFor object message sig
  refused_by_key sig refused = record {
    has_key = λ none. none key described;
    bad = λ valid. (let passes : is_signature_of key message sig ≡ true = (valid_by_key sig).1 valid in
        cc);
  }

  -- and so is whether the key signed a message
  module _ (id : List ℕ) (of_bytes : IsOfBytes key) where
    same_test : (sig : List ℕ)
        → is_valid_for (number_of key) message sig ≡ is_signature_of key message sig
    same_test sig = valid_by_number key described.is_key of_bytes message sig

    abbrev passes : Signature → Bool
    passes s = is_admitted id s && is_valid_for (number_of key) message s.sig

    pub signed_by_key : (signatures : List Signature)
        → IsTrue (is_vouched_by public_key_check id (number_of key) message signatures)
        ↔ SignedUnder message signatures (id, object)
    signed_by_key signatures = (
      λ e. (let some = Any-from_list_any passes signatures e in
          let parts = and_parts _ _ some.4 in (
            some.0,
            some.1,
            some.2,
            some.3,
            record {
              tried = parts.0;
              valid = (valid_by_key some.1.sig).0 (sym (same_test some.1.sig) ∙ parts.1);
            },
          )),
      λ some. list_any-from_Any passes signatures (
        some.0,
        some.1,
        some.2,
        some.3,
        and_from _ _ some.4.tried
            (same_test some.1.sig ∙ (valid_by_key some.1.sig).1 some.4.valid),
      ),
    )

-- nobody signs by an object without a key
pub keyless_signs_nothing : (id : List ℕ) (object : KeyObject) (message : List ℕ)
    (signatures : List Signature) → IsKeyless object
    → IsTrue false ↔ SignedUnder message signatures (id, object)
keyless_signs_nothing id object message signatures none = (
  λ bad. absurd (cc),
  λ some. absurd (none some.4.valid.key some.4.valid.described),
)
