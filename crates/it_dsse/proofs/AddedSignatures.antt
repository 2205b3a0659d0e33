-- Who signed an envelope that has one signature more.
use Rattle.std.proofs.Common.{◌≡◌, ◌≢◌, ℕ, zero, suc, List, [], ◌∷◌, ◌++◌, Bool, true, false, ◌||◌}
use Rattle.std.proofs.Common.{Option, Some, None, refl, ap, sym, subst, ◌∙◌, arith, inl, inr, codes}
use Rattle.std.specs.Prelude.{◌⊎◌, MatchOption}
use Rattle.std.specs.List.{Any, find, position, slice_get}
use Rattle.std.specs.Option.{option_and_then}
use Rattle.std.specs.Str.{bytes_eq}
use Rattle.std.proofs.lemmas.Bool.{cases_Bool, false≢true}
use Rattle.std.proofs.lemmas.List.{get_or_append_left, length-append}
use Rattle.std.proofs.lemmas.List.Quantifiers.{Any-push}
use Rattle.std.proofs.lemmas.Option.{same_Some}
use Rattle.std.proofs.lemmas.Slice.Eq.{bytes_eq-Decides}
use Rattle.it_dsse.specs.Check.{Check}
use Rattle.it_dsse.specs.Countersigned.{IsCountersigned, IsSignatureUnder}
use Rattle.it_dsse.specs.Hmac.{block_of, hmac}
use Rattle.it_dsse.specs.Laws.{EarlierSignersStay, LastSignerSigned, NoOtherSigner}
use Rattle.it_dsse.specs.Pae.{pae_of}
use Rattle.it_dsse.specs.Panel.{KeyNumber, panel_of}
use Rattle.it_dsse.specs.Ring.{has_id, has_key, number_of, ring_check}
use Rattle.it_dsse.specs.Signed.{IsSigner, Vouches, message_of}
use Rattle.it_dsse.specs.Signing.{signature_of}
use Rattle.it_dsse.specs.declared.envelope.Envelope.{Envelope}
use Rattle.it_dsse.specs.declared.envelope.Signature.{Signature}
use Rattle.it_dsse.specs.declared.key_object.KeyObject.{KeyObject}
use Rattle.it_dsse.specs.declared.ring_entry.RingEntry.{RingEntry}
use Rattle.it_dsse.proofs.Places.{find-position}

-- what holds of some element holds of one of a longer list
any_append : {X : Type 0} (P : X → Type 0) (xs ys : List X) → Any P xs → Any P (xs ++ ys)
any_append P xs ys (k, x, below, is, holds) = (
  k,
  x,
  omega (arith, length-append xs ys, below),
  get_or_append_left xs ys x k below ∙ is,
  holds,
)

-- what holds of some element of a list with one more holds of one of the list, or of that one
any_split : {X : Type 0} (P : X → Type 0) (xs : List X) (y : X) → Any P (xs ++ y ∷ [])
    → Any P xs ⊎ P y
any_split P [] y (zero, x, below, is, holds) = inr (subst P (sym is) holds)
any_split P [] y (suc k, x, below, is, holds) = absurd (omega (arith, below))
any_split P (z ∷ xs) y (zero, x, below, is, holds) = inl (0, x, omega arith, is, holds)
any_split P (z ∷ xs) y (suc k, x, below, is, holds) =
    elim (any_split P xs y (k, x, omega (arith, below), is, holds)) [
      | inl found ↦ inl (suc found.0, found.1, omega (arith, found.2), found.3, found.4)
      | inr last ↦ inr last
    ]

-- the message is that of before
same_message : (ring : List RingEntry) (id kind body : List ℕ) (old new : Envelope)
    → IsCountersigned ring id kind body old new → message_of new ≡ message_of old
same_message ring id kind body old new h = rw (h.payload_type, h.payload) refl

pub earlier_stay : EarlierSignersStay
earlier_stay ring id kind body old new h panel signer object n signed =
    let vouched : Any (Vouches panel signer n (message_of old)) (old.signatures ++ h.added ∷ []) =
    any_append (Vouches panel signer n (message_of old)) old.signatures (h.added ∷ [])
    signed.signature in
    record {
      key = signed.key;
      signature = rw (same_message ring id kind body old new h, h.signatures) vouched;
    }

-- what one test finds, another finds no later
found_other : {X : Type 0} (p q : X → Bool) (xs : List X) (x : X) → find p xs ≡ Some x
    → q x ≡ true → (y : X) × (find q xs ≡ Some y) × (q y ≡ true)
found_other p q [] x e passes = cc
found_other p q (z ∷ zs) x e passes =
    elim (cases_Bool (q z)) [
      | inl passes_here ↦ (z, rw passes_here refl, passes_here)
      | inr fails ↦
          elim (cases_Bool (p z)) [
            | inl first ↦
                let same : z ≡ x = same_Some z x (rw first at e) in
                absurd (false≢true (sym fails ∙ ap q same ∙ passes))
            | inr later ↦
                let found = found_other p q zs x (rw later at e) passes in
                (found.0, rw fails found.1, found.2)
          ]
    ]

placed : {X : Type 0} (xs : List X) (o : Option ℕ) (y : X)
    → option_and_then (slice_get xs) o ≡ Some y → (n : ℕ) × (o ≡ Some n) × (slice_get xs n ≡ Some y)
placed xs None y e = cc
placed xs (Some n) y e = (n, refl, e)

-- a list has what is found in it at the first place that passes
found_at : {X : Type 0} (q : X → Bool) (xs : List X) (y : X) → find q xs ≡ Some y
    → (n : ℕ) × (position q xs ≡ Some n) × (slice_get xs n ≡ Some y)
found_at q xs y e = placed xs (position q xs) y (sym (find-position q xs) ∙ e)

-- a ring has the key under an id at its number
found_key : (ring : List RingEntry) (id : List ℕ) (entry : RingEntry)
    → find (has_id id) ring ≡ Some entry
    → (n : ℕ) × (other : RingEntry) × (number_of ring id ≡ Some n) × (slice_get ring n ≡ Some other)
    × (block_of other.secret ≡ block_of entry.secret)
found_key ring id entry e =
    let key = block_of entry.secret in
    let found = found_other (has_id id) (has_key key) ring entry e ((bytes_eq-Decides key key).1 refl)
    in
    let place = found_at (has_key key) ring found.0 found.1 in (
      place.0,
      found.0,
      rw e place.1,
      place.2,
      (bytes_eq-Decides (block_of found.0.secret) key).0 found.2,
    )

-- codes are by keys
same_code : (a b message : List ℕ) → block_of a ≡ block_of b → hmac a message ≡ hmac b message
unfolding hmac
same_code a b message e = rw e refl

or_true : (b : Bool) → (b || true) ≡ true
or_true true = refl
or_true false = refl

-- a signature under a key of a ring vouches for that key, by a panel that asks the ring first
vouches_first : (ring : List RingEntry) (id kind body : List ℕ) (checks : List Check)
    (object : KeyObject) (entry : RingEntry)
    → object.scheme ≡ codes "hmac-sha256" → find (has_id id) ring ≡ Some entry
    → (n : KeyNumber) × ((panel_of (ring_check ring ∷ checks)).key_of id object ≡ Some n)
    × Vouches (panel_of (ring_check ring ∷ checks)) id n (pae_of kind body)
    (signature_of entry.secret id kind body)
vouches_first ring id kind body checks object entry scheme e =
    let key = found_key ring id entry e in
    let message = pae_of kind body in
    let code : bytes_eq (hmac key.1.secret message) (hmac entry.secret message) ≡ true =
    (bytes_eq-Decides (hmac key.1.secret message) (hmac entry.secret message)).1
    (same_code key.1.secret entry.secret message key.4) in (
      (0, key.0),
      rw ((bytes_eq-Decides object.scheme (codes "hmac-sha256")).1 scheme, key.2) refl,
      record {
        admitted = rw ((bytes_eq-Decides id id).1 refl) (or_true (bytes_eq id []));
        valid = rw key.3 code;
      },
    )

pub last_signed : LastSignerSigned
last_signed ring id kind body old new h checks object scheme =
    let panel = panel_of (ring_check ring ∷ checks) in
    let held : message_of new ≡ pae_of kind body =
    rw (h.payload_type ∙ h.old_type, h.payload ∙ h.old_payload) refl in
    elim (find (has_id id) ring) as (λ o. find (has_id id) ring ≡ o
    → MatchOption o ⊥ (λ entry. h.added ≡ signature_of entry.secret id kind body)
    → IsSigner panel new object id) [
      | None ↦ λ e none. absurd none
      | Some entry ↦ λ e added.
          let vouched = vouches_first ring id kind body checks object entry scheme e in (
            vouched.0,
            record {
              key = vouched.1;
              signature = rw (held, h.signatures, added)
                  (Any-push (Vouches panel id vouched.0 (pae_of kind body)) old.signatures
                  (signature_of entry.secret id kind body) vouched.2);
            },
          )
    ] refl h.is_added

hint_is : (ring : List RingEntry) (id kind body : List ℕ) (signature : Signature)
    → IsSignatureUnder ring id kind body signature → signature.keyid ≡ id
hint_is ring id kind body signature under =
    elim (find (has_id id) ring) as (λ o. MatchOption o ⊥
    (λ entry. signature ≡ signature_of entry.secret id kind body) → signature.keyid ≡ id) [
      | None ↦ λ none. absurd none
      | Some entry ↦ λ is. ap (λ (s : Signature). s.keyid) is
    ] under

-- a hint is admitted for its own id alone, unless it is empty
not_admitted : (hint id : List ℕ) → hint ≢ [] → id ≢ hint
    → (bytes_eq hint [] || bytes_eq hint id) ≡ true → ⊥
not_admitted hint id named other admitted =
    elim (cases_Bool (bytes_eq hint [])) [
      | inl empty ↦ named ((bytes_eq-Decides hint []).0 empty)
      | inr hinted ↦ other (sym ((bytes_eq-Decides hint id).0 (rw hinted at admitted)))
    ]

pub no_other : NoOtherSigner
no_other ring id kind body old new h panel signer object n named other signed =
    let P = Vouches panel signer n (message_of old) in
    let hint = hint_is ring id kind body h.added h.is_added in
    let found : Any P (old.signatures ++ h.added ∷ []) =
    rw (same_message ring id kind body old new h, h.signatures) at signed.signature in
    let before : Any P old.signatures = elim (any_split P old.signatures h.added found) [
      | inl before ↦ before
      | inr last ↦ absurd (not_admitted id signer named other (rw hint at last.admitted))
    ] in
    record {
      key = signed.key;
      signature = before;
    }
