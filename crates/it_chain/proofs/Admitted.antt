-- What counts for an id among the envelopes that can be signed under it counts among all.
use Rattle.std.proofs.Common.{◌≡◌, ◌∙◌, ◌+◌, ◌≤◌, ◌&&◌, ◌||◌, ℕ, List, [], ◌∷◌, Bool, true}
use Rattle.std.proofs.Common.{false, Contains, Result, Ok, Err, ap, arith, cond, filter, length, not}
use Rattle.std.proofs.Common.{refl, sym, ⊎_elim, bytes_eq, IsTrue, ◌<◌}
use Rattle.std.specs.List.{slice_index_or}
use Rattle.std.proofs.lemmas.List.Elements.{Contains-append_cases, Contains-append_left}
use Rattle.std.proofs.lemmas.List.Elements.{Contains-append_right}
use Rattle.std.proofs.lemmas.List.Folds.{list_any-from_Any}
use Rattle.std.proofs.lemmas.List.Sums.{sum_by-append, sum_by-cons}
use Rattle.std.proofs.lemmas.Slice.Eq.{bytes_eq-Decides}
use Rattle.it_dsse.specs.Panel.{KeyNumber, Panel}
use Rattle.it_dsse.specs.Signed.{Signed}
use Rattle.it_dsse.specs.declared.envelope.Envelope.{Envelope}
use Rattle.it_dsse.specs.declared.envelope.Signature.{Signature}
use Rattle.it_dsse.specs.declared.key_object.KeyObject.{KeyObject}
use Rattle.it_dsse.specs.declared.meter.Meter.{Meter}
use Rattle.it_chain.specs.Raised.{RaisedWithin}
use Rattle.it_chain.specs.inside.Asked.{Asks, SignaturesIn, least_counted}
use Rattle.it_chain.specs.inside.Asked.{signature_count}
use Rattle.it_chain.specs.inside.CountedBodies.{Counts, IsSigned}
use Rattle.it_chain.specs.inside.Hints.{admitted_for, hints_at, is_unhinted, is_under}
use Rattle.it_chain.specs.declared.body.Body.{Body as Held}
use Rattle.it_chain.specs.declared.counted_bodies.Counting.{Counting}
use Rattle.it_chain.specs.declared.counted_bodies.Counting.TheVariants.{Nothing, One, Several}
use Rattle.it_chain.proofs.Asking.{sum_of, within_weaker}
use Rattle.it_chain.proofs.Members.{in_filter, of_filter}

or_true : (b : Bool) → (b || true) ≡ true
or_true true = refl
or_true false = refl

-- ---- how many signatures there are
abbrev size : Envelope → ℕ
size envelope = length envelope.signatures

one_of : (first second : Bool) (envelope : Envelope) (firsts seconds all : List Envelope)
    → (first ≡ true → second ≡ false)
    → signature_count firsts + signature_count seconds ≤ signature_count all
    → signature_count (cond first (envelope ∷ firsts) firsts)
    + signature_count (cond second (envelope ∷ seconds) seconds) ≤ signature_count (envelope ∷ all)
one_of true true envelope firsts seconds all apart less = let no = apart refl in cc
one_of true false envelope firsts seconds all apart less =
    omega (arith, sum_by-cons size envelope firsts, sum_by-cons size envelope all, less)
one_of false true envelope firsts seconds all apart less =
    omega (arith, sum_by-cons size envelope seconds, sum_by-cons size envelope all, less)
one_of false false envelope firsts seconds all apart less =
    omega (arith, sum_by-cons size envelope all, less)

apart_of : (id : List ℕ) (envelope : Envelope) → is_unhinted envelope ≡ true
    → is_under id envelope ≡ false
apart_of id envelope no_hint = by (hints_at id envelope.signatures) where
  by : (b : Bool) → (b && not (is_unhinted envelope)) ≡ false
  by true = rw no_hint refl
  by false = refl

parts_count : (id : List ℕ) (all : List Envelope)
    → signature_count (filter is_unhinted all) + signature_count (filter (is_under id) all)
    ≤ signature_count all
parts_count id [] = omega arith
parts_count id (envelope ∷ all) = one_of (is_unhinted envelope) (is_under id envelope) envelope
    (filter is_unhinted all) (filter (is_under id) all) all (apart_of id envelope) (parts_count id all)

fewer : (id : List ℕ) (all : List Envelope)
    → signature_count (admitted_for id all) ≤ signature_count all
fewer id all = omega (
  arith,
  sum_by-append size (filter is_unhinted all) (filter (is_under id) all),
  parts_count id all,
)

sum_is : (all : List Envelope) (n : ℕ) → SignaturesIn all n → n ≡ signature_count all
sum_is [] n is = is
sum_is (envelope ∷ all) n is =
    let rest = sum_is all is.1 is.3 in
    omega (arith, is.2, rest, is.4, sum_by-cons size envelope all)

-- ---- what is asked of some is asked of all
module _ (id : List ℕ) (all : List Envelope) (old new : Meter) where
  within_all : (least : ℕ) → RaisedWithin least (SignaturesIn (admitted_for id all)) old new
      → RaisedWithin least (SignaturesIn all) old new
  within_all least = within_weaker least least (SignaturesIn (admitted_for id all)) (SignaturesIn all)
      old new (omega arith) (λ n is. (
        signature_count (admitted_for id all),
        sum_of size (admitted_for id all),
        let less = fewer id all in omega (arith, sum_is all n is, less),
      ))

  pub asks_all : {E : Type 0} (result : Result Counting E)
      → Asks least_counted (SignaturesIn (admitted_for id all)) old new result
      → Asks least_counted (SignaturesIn all) old new result
  asks_all (Ok counting) = within_all (least_counted counting)
  asks_all (Err e) = within_all 0

-- ---- what counts
module _ (panel : Panel) (step id : List ℕ) (object : KeyObject) (all : List Envelope) where
  among_all : (envelope : Envelope) → Contains (admitted_for id all) envelope
      → Contains all envelope
  among_all envelope among = ⊎_elim
      (λ first. (of_filter is_unhinted all envelope first).1)
      (λ under. (of_filter (is_under id) all envelope under).1)
      (Contains-append_cases (filter is_unhinted all) (filter (is_under id) all) envelope among)

  by_hint : (first : Bool) (envelope : Envelope) → is_unhinted envelope ≡ first
      → (first || hints_at id envelope.signatures) ≡ true → Contains all envelope
      → Contains (admitted_for id all) envelope
  by_hint true envelope is some among =
      Contains-append_left (filter is_unhinted all) (filter (is_under id) all) envelope
      (in_filter is_unhinted all envelope is among)
  by_hint false envelope is some among =
      Contains-append_right (filter is_unhinted all) (filter (is_under id) all) envelope
      (in_filter (is_under id) all envelope (rw (is, some) refl) among)

  module _ (envelope : Envelope) (place : ℕ) (signature : Signature)
      (within : place < length envelope.signatures)
      (here : slice_index_or envelope.signatures place signature ≡ signature) where
    has_hint : (hint : List ℕ) → signature.keyid ≡ hint
        → hints_at hint envelope.signatures ≡ true
    has_hint hint same =
        list_any-from_Any (λ (s : Signature). bytes_eq hint s.keyid) envelope.signatures (
          place,
          signature,
          within,
          here,
          (bytes_eq-Decides hint signature.keyid).1 (sym same),
        )

    some_hint : (first : Bool) → bytes_eq signature.keyid [] ≡ first
        → IsTrue (first || bytes_eq signature.keyid id)
        → (is_unhinted envelope || hints_at id envelope.signatures) ≡ true
    some_hint true is some =
        ap (λ b. b || hints_at id envelope.signatures)
        (has_hint [] ((bytes_eq-Decides signature.keyid []).0 is))
    some_hint false is some =
        ap (λ b. is_unhinted envelope || b)
        (has_hint id ((bytes_eq-Decides signature.keyid id).0 some))
        ∙ or_true (is_unhinted envelope)

  admitted : (envelope : Envelope) (n : KeyNumber) → Contains all envelope
      → Signed panel envelope id object n → Contains (admitted_for id all) envelope
  admitted envelope n among signed =
      let at = signed.signature in
      by_hint (is_unhinted envelope) envelope refl
      (some_hint envelope at.0 at.1 at.2 at.3 (bytes_eq at.1.keyid []) refl at.4.admitted) among

  widened : (envelope : Envelope) (key : KeyNumber) (body : Held)
      → IsSigned panel step id object (admitted_for id all) envelope key body
      → IsSigned panel step id object all envelope key body
  widened envelope key body is = record {
    stands = among_all envelope is.stands;
    signed = is.signed;
  }

  narrowed : (envelope : Envelope) (key : KeyNumber) (body : Held)
      → IsSigned panel step id object all envelope key body
      → IsSigned panel step id object (admitted_for id all) envelope key body
  narrowed envelope key body is = record {
    stands = admitted envelope key is.stands is.signed.0;
    signed = is.signed;
  }

  -- what counts among those that can be signed under the id counts among all
  pub counts_all : (counting : Counting)
      → Counts panel step id object (admitted_for id all) counting
      → Counts panel step id object all counting
  counts_all Nothing none = λ envelope key body is.
      none envelope key body (narrowed envelope key body is)
  counts_all (One found) one = record {
    is = widened found.envelope.now found.key found.body one.is;
    alone = λ other k b is. one.alone other k b (narrowed other k b is);
  }
  counts_all Several two = record {
    one = two.one;
    other = two.other;
    one_key = two.one_key;
    other_key = two.other_key;
    one_body = two.one_body;
    other_body = two.other_body;
    one_is = widened two.one two.one_key two.one_body two.one_is;
    other_is = widened two.other two.other_key two.other_body two.other_is;
    differ = two.differ;
  }
