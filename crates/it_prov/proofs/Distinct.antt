-- Places of builders with the same keys.
use Rattle.std.proofs.Common.{◌≡◌, ◌∙◌, ◌+◌, ◌<◌, ◌++◌, ℕ, zero, suc, List, [], ◌∷◌, Some}
use Rattle.std.proofs.Common.{inl, inr, Contains, length, get_or, take, sym, ap, subst}
use Rattle.std.proofs.Common.{append_assoc}
use Rattle.std.specs.Borrow.{Bor}
use Rattle.std.proofs.lemmas.List.Elements.{Contains-append_left, Contains-push}
use Rattle.it_base.specs.Table.{Named}
use Rattle.it_base.proofs.Elements.{zip_more}
use Rattle.it_dsse.specs.declared.key_object.KeyObject.{KeyObject}
use Rattle.it_docs.specs.declared.policy.Builder.{Builder}
use Rattle.it_docs.specs.declared.policy.Expectation.{Expectation}
use Rattle.it_prov.specs.inside.Distinct.{AllHaveSameAt, AreAsked, ArePlaced, HasSameAt}
use Rattle.it_prov.specs.inside.Distinct.{HaveSameAt, IsPlaced, keys_at}
use Rattle.it_prov.proofs.Holding.{zip_each}

-- ---- builders that are added leave those before them where they stand
keys_stay : (old more : List (Bor Builder)) (place : ℕ) (keys : Named KeyObject)
    → keys_at old place ≡ Some keys → keys_at (old ++ more) place ≡ Some keys
keys_stay [] more place keys e = cc
keys_stay (b ∷ old) more zero keys e = e
keys_stay (b ∷ old) more (suc place) keys e = keys_stay old more place keys e

same_stay : (old more : List (Bor Builder)) (builders : List Builder) (places : List ℕ)
    → HaveSameAt old builders places → HaveSameAt (old ++ more) builders places
same_stay old more = zip_each (HasSameAt old) (HasSameAt (old ++ more))
    (λ builder place e. keys_stay old more place builder.keys e)

all_stay : (old more : List (Bor Builder)) (expectations : List Expectation)
    (lists : List (List ℕ)) → AllHaveSameAt old expectations lists
    → AllHaveSameAt (old ++ more) expectations lists
all_stay old more = zip_each (λ (e : Expectation) places. HaveSameAt old e.builders places)
    (λ (e : Expectation) places. HaveSameAt (old ++ more) e.builders places)
    (λ e places. same_stay old more e.builders places)

-- ---- one builder

-- ---- builders, one after another

pub placed_more : (old now new : List (Bor Builder)) (builders : List Builder) (i : ℕ)
    (builder : Builder) (places : List ℕ) (place : ℕ) → i < length builders
    → builder ≡ get_or builders i builder → ArePlaced old now (take i builders) places
    → IsPlaced now new builder place
    → ArePlaced old new (take (i + 1) builders) (places ++ place ∷ [])
placed_more old now new builders i builder places place below here h k = record {
  more = h.more ++ k.more;
  grown = k.grown ∙ ap (λ bs. bs ++ k.more) h.grown ∙ append_assoc old h.more k.more;
  same = zip_more (HasSameAt new) builders i builder places place below here
      (subst (λ bs. HaveSameAt bs (take i builders) places) (sym k.grown)
      (same_stay now k.more (take i builders) places h.same)) k.same;
  used = λ other less. elim (k.used other less) [
    | inl earlier ↦ elim (h.used other earlier) [
      | inl before ↦ inl before
      | inr one ↦ inr (Contains-append_left places (place ∷ []) other one)
    ]
    | inr last ↦ inr (subst (Contains (places ++ place ∷ [])) (sym last)
        (Contains-push places place))
  ];
}

-- ---- expectations, one after another

pub asked_more : (now new : List (Bor Builder)) (expectations : List Expectation) (i : ℕ)
    (expectation : Expectation) (lists : List (List ℕ)) (places : List ℕ)
    → i < length expectations → expectation ≡ get_or expectations i expectation
    → AreAsked (take i expectations) now lists
    → ArePlaced now new expectation.builders places
    → AreAsked (take (i + 1) expectations) new (lists ++ places ∷ [])
asked_more now new expectations i expectation lists places below here h k = record {
  same = zip_more (λ (e : Expectation) ps. HaveSameAt new e.builders ps) expectations i
      expectation lists places below here
      (subst (λ bs. AllHaveSameAt bs (take i expectations) lists) (sym k.grown)
      (all_stay now k.more (take i expectations) lists h.same)) k.same;
  used = λ place less. elim (k.used place less) [
    | inl earlier ↦ let one = h.used place earlier in
        (one.0, Contains-append_left lists (places ∷ []) one.0 one.1, one.2)
    | inr later ↦ (places, Contains-push lists places, later)
  ];
}
