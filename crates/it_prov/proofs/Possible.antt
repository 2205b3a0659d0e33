-- Which builders can have signed an envelope, found by the ids of their keys.
use Rattle.std.proofs.Common.{◌≡◌, ◌∙◌, ◌++◌, ◌+◌, ◌<◌, ◌≤◌, ◌||◌, ℕ, List, [], ◌∷◌, Bool, true, false}
use Rattle.std.proofs.Common.{Contains, Some, Any, IsTrue, append_assoc, append-nil, arith, ap}
use Rattle.std.proofs.Common.{◌==◌, bytes_eq, get_or, inl, inr, length, refl, subst, sym, take, take_all}
use Rattle.std.specs.Borrow.{Bor}
use Rattle.std.specs.FinMap.{entries, get}
use Rattle.std.specs.List.{slice_get}
use Rattle.std.proofs.lemmas.Bool.{cases_lt, false≢true}
use Rattle.std.proofs.lemmas.List.Elements.{Contains-append_left, Contains-append_right}
use Rattle.std.proofs.lemmas.List.Elements.{Contains-push_cases}
use Rattle.std.proofs.lemmas.Option.{same_Some, slice_get_within}
use Rattle.std.proofs.lemmas.Slice.Eq.{bytes_eq-Decides}
use Rattle.it_base.proofs.Members.{in_none}
use Rattle.it_base.specs.Table.{Named}
use Rattle.it_dsse.specs.Panel.{Panel}
use Rattle.it_dsse.specs.Signed.{Vouches, is_admitted, message_of}
use Rattle.it_dsse.specs.declared.envelope.Envelope.{Envelope}
use Rattle.it_dsse.specs.declared.envelope.Signature.{Signature}
use Rattle.it_dsse.specs.declared.key_object.KeyObject.{KeyObject}
use Rattle.it_docs.specs.declared.policy.Builder.{Builder}
use Rattle.it_places.specs.Places.{IsPut, IsUnder}
use Rattle.it_places.specs.declared.places.Places.{Places}
use Rattle.it_prov.specs.Meets.{SignedByBuilder}
use Rattle.it_prov.specs.inside.Possible.{ArePossible, AreUnderIds, CanSign, IsUnderIds}
use Rattle.it_digest.proofs.Entries.{known_entry}

-- a builder that signed an envelope can have signed it
pub signer_can : (panel : Panel) (envelope : Envelope) (builder : Builder)
    → SignedByBuilder panel envelope builder → CanSign envelope builder
signer_can panel envelope builder signed =
    let vouching = signed.signed.signature in
    record {
      id = signed.id;
      object = signed.object;
      is_key = signed.is_key;
      admitted = (vouching.0, vouching.1, vouching.2, vouching.3, vouching.4.admitted);
    }

-- ---- the ids of one builder's keys, one after another
module _ (old : Places) (keys : Named KeyObject) (place : ℕ) where
  -- the place is under the ids of the entries before the rest, and what was under a text still is
  pub record UnderSoFar (now : Places) (rest : List (List ℕ × KeyObject)) : Type 0 where
    pub done : List (List ℕ × KeyObject)
    pub are : entries keys ≡ done ++ rest
    pub under : (e : List ℕ × KeyObject) → Contains done e → IsUnder now e.0 place
    pub kept : (text : List ℕ) (p : ℕ) → IsUnder old text p → IsUnder now text p

  pub none_under : (rest : List (List ℕ × KeyObject)) → rest ≡ entries keys → UnderSoFar old rest
  none_under rest all = record {
    done = [];
    are = sym all;
    under = λ e among. absurd (in_none e among);
    kept = λ text p under. under;
  }

  pub under_more : (now next : Places) (e : List ℕ × KeyObject) (rest : List (List ℕ × KeyObject))
      → IsPut e.0 place now next → UnderSoFar now (e ∷ rest) → UnderSoFar next rest
  under_more now next e rest put so_far = record {
    done = so_far.done ++ e ∷ [];
    are = so_far.are ∙ sym (append_assoc so_far.done (e ∷ []) rest);
    under = λ f among. elim (Contains-push_cases so_far.done e f among) [
      | inl before ↦ (put f.0 place).1 (inl (so_far.under f before))
      | inr same ↦ (put f.0 place).1
          (inr (ap (λ (g : List ℕ × KeyObject). g.0) (sym same), refl))
    ];
    kept = λ text p under. (put text p).1 (inl (so_far.kept text p under));
  }

  pub all_under : (now : Places) → UnderSoFar now [] → IsUnderIds now keys place
  all_under now so_far id object known =
      so_far.under (id, object) (subst (λ es. Contains es (id, object))
      (so_far.are ∙ append-nil so_far.done) (known_entry keys id object known))

-- ---- the builders, one after another
-- the place of each builder below a number is under the ids of its keys
abbrev pub AreUnderBelow : ℕ → List (Bor Builder) → Places → Type 0
AreUnderBelow most builders ids =
    (place : ℕ) (builder : Bor Builder) → place < most → slice_get builders place ≡ Some builder
    → IsUnderIds ids builder.now.keys place

module _ (builders : List (Bor Builder)) where
  pub below_more : (i : ℕ) (builder : Bor Builder) (old new : Places)
      → slice_get builders i ≡ Some builder → AreUnderBelow i builders old
      → ((text : List ℕ) (p : ℕ) → IsUnder old text p → IsUnder new text p)
      → IsUnderIds new builder.now.keys i → AreUnderBelow (i + 1) builders new
  below_more i builder old new here before kept under place other below stands =
      elim (cases_lt place i) [
        | inl less ↦ λ id object known. kept id place (before place other less stands id object known)
        | inr past ↦
            let same : i ≡ place = omega (arith, below, past) in
            let is : builder ≡ other = same_Some builder other
            (sym here ∙ ap (slice_get builders) same ∙ stands) in
            subst (λ n. IsUnderIds new other.now.keys n) same
            (subst (λ (b : Bor Builder). IsUnderIds new b.now.keys i) is under)
      ]

  pub all_below : (most : ℕ) (ids : Places) → length builders ≤ most
      → AreUnderBelow most builders ids → AreUnderIds builders ids
  all_below most ids past below place builder stands =
      let inside = slice_get_within builders place builder stands in
      below place builder (omega (arith, past, inside)) stands

-- ---- the signatures, one after another
pub not_empty : (text : List ℕ) → (length text == 0) ≡ false → bytes_eq text [] ≡ false
not_empty [] some = some
not_empty (c ∷ text) some = refl

-- a signature has a hint, under which all places are among these
pub record IsHinted (ids : Places) (places : List ℕ) (signature : Signature) : Type 0 where
  pub hint : bytes_eq signature.keyid [] ≡ false
  pub among : (place : ℕ) → IsUnder ids signature.keyid place → Contains places place

abbrev pub AreHinted : Places → List Signature → List ℕ → Type 0
AreHinted ids signatures places =
    (signature : Signature) → Contains signatures signature → IsHinted ids places signature

pub hinted_more : (ids : Places) (signatures : List Signature) (signature : Signature)
    (places more : List ℕ) → AreHinted ids signatures places
    → bytes_eq signature.keyid [] ≡ false
    → ((place : ℕ) → IsUnder ids signature.keyid place → Contains more place)
    → AreHinted ids (signatures ++ signature ∷ []) (places ++ more)
hinted_more ids signatures signature places more hinted hint under other among =
    elim (Contains-push_cases signatures signature other among) [
      | inl before ↦ let known = hinted other before in record {
        hint = known.hint;
        among = λ place at. Contains-append_left places more place (known.among place at);
      }
      | inr same ↦ subst (IsHinted ids (places ++ more)) same (record {
        hint = hint;
        among = λ place at. Contains-append_right places more place (under place at);
      })
    ]

admitted_under : (hint id : List ℕ) (none : Bool) → bytes_eq hint [] ≡ none → none ≡ false
    → IsTrue (none || bytes_eq hint id) → hint ≡ id
admitted_under hint id true is hinted admitted = absurd (false≢true (sym hinted))
admitted_under hint id false is hinted admitted = (bytes_eq-Decides hint id).0 admitted

pub hinted_possible : (envelope : Envelope) (builders : List (Bor Builder)) (ids : Places)
    (places : List ℕ) → AreUnderIds builders ids → AreHinted ids envelope.signatures places
    → ArePossible envelope builders places
hinted_possible envelope builders ids places listed hinted place builder stands can =
    let at = can.admitted in
    let signature = at.1 in
    let known = hinted signature (at.0, at.2, at.3) in
    let is = admitted_under signature.keyid can.id (bytes_eq signature.keyid []) refl known.hint at.4 in
    known.among place (subst (λ hint. IsUnder ids hint place) (sym is)
    (listed place builder stands can.id can.object can.is_key))
