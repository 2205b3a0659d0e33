-- Where no nonce is shared, signatures with the same number r are by one key.
use Rattle.std.proofs.Common.{◌≡◌, ◌∙◌, ◌++◌, ◌∷◌, [], zero, suc, List, Bool, true, false}
use Rattle.std.proofs.Common.{◌&&◌, Option, Some, Contains, nat_eq, if◌then◌else◌, cond, find}
use Rattle.std.proofs.Common.{ap, arith, eq-eqb, refl, subst, sym}
use Rattle.std.specs.List.{flat_map}
use Rattle.std.proofs.lemmas.Bool.{eqb-true}
use Rattle.it_dsse.specs.Panel.{KeyNumber}
use Rattle.it_nonces.specs.SharedNonces.{has_r, is_same_key, shared_in, shared_nonces}
use Rattle.it_nonces.specs.SharedNonces.{shared_with, shared_with_first}
use Rattle.it_nonces.specs.declared.nonce_use.NonceUse.{NonceUse}
use Rattle.it_p256_limbs.specs.Numbers.{value_of}
use Rattle.it_strict.specs.StrictLaws.{NoncesAreOfOneKey}

-- no part of nothing has anything
nil_before : {X : Type 0} (xs ys : List X) → xs ++ ys ≡ [] → xs ≡ []
nil_before [] ys e = refl
nil_before (x ∷ xs) ys e = cc e

nil_behind : {X : Type 0} (xs ys : List X) → xs ++ ys ≡ [] → ys ≡ []
nil_behind [] ys e = e
nil_behind (x ∷ xs) ys e = cc e

nil_in_each : {X Y : Type 0} (f : X → List Y) (xs : List X) → flat_map f xs ≡ [] → (x : X)
    → Contains xs x → f x ≡ []
nil_in_each f [] none x h = absurd (omega (arith, h.1))
nil_in_each f (y ∷ ys) none x (zero, l, e) =
    subst (λ v. f v ≡ []) e (nil_before (f y) (flat_map f ys) none)
nil_in_each f (y ∷ ys) none x (suc k, l, e) =
    nil_in_each f ys (nil_behind (f y) (flat_map f ys) none) x (k, omega (arith, l), e)

-- where an element passes a test, the first that does is found
first_found : {X : Type 0} (test : X → Bool) (xs : List X) (x : X) → Contains xs x
    → test x ≡ true → (y : X) × (find test xs ≡ Some y)
first_found test [] x h passes = absurd (omega (arith, h.1))
first_found test (y ∷ ys) x (zero, l, e) passes =
    let here : test y ≡ true = subst (λ v. test v ≡ true) (sym e) passes in
    (y, ap (λ b. cond b (Some y) (find test ys)) here)
first_found test (y ∷ ys) x (suc k, l, e) passes =
    by (test y) (first_found test ys x (k, omega (arith, l), e) passes)
  where
    by : (b : Bool) → (z : _) × (find test ys ≡ Some z)
        → (z : _) × (cond b (Some y) (find test ys) ≡ Some z)
    by true rest = (y, refl)
    by false rest = rest

-- one key has one name
both_true : (a b : Bool) → (a && b) ≡ true → (a ≡ true) × (b ≡ true)
both_true true b e = (refl, e)
both_true false b e = cc e

same_key : (a b : KeyNumber) → is_same_key a b ≡ true → a ≡ b
same_key (a, m) (b, n) e =
    let both = both_true (nat_eq a b) (nat_eq m n) e in
    let place : a ≡ b = eqb-true a b both.0 in
    let number : m ≡ n = eqb-true m n both.1 in
    cc (place, number)

none_but_same : {X : Type 0} (b : Bool) (x : X) → (if b then [] else x ∷ []) ≡ [] → b ≡ true
none_but_same true x e = refl
none_but_same false x e = cc e

-- where nothing is found in a signature, the first with its r is by the same key
by_first : (at first : NonceUse) (found : Option NonceUse) → found ≡ Some first
    → shared_with_first at found ≡ [] → first.key ≡ at.key
by_first at first found is none =
    let here : shared_with at first ≡ [] = subst (λ f. shared_with_first at f ≡ []) is none in
    same_key first.key at.key (none_but_same (is_same_key first.key at.key) _ here)

module _ (uses : List NonceUse) (none : shared_nonces uses ≡ []) where
  with_first : (at : NonceUse) → Contains uses at
      → (first : NonceUse) × (find (has_r (value_of at.r)) uses ≡ Some first) × (first.key ≡ at.key)
  with_first at among =
      let r = value_of at.r in
      let first = first_found (has_r r) uses at among (eq-eqb r r refl) in (
        first.0,
        first.1,
        by_first at first.0 (find (has_r r) uses) first.1
            (nil_in_each (shared_in uses) uses none at among),
      )

  pub by_one_key : (a b : NonceUse) → Contains uses a → Contains uses b
      → value_of a.r ≡ value_of b.r → a.key ≡ b.key
  by_one_key a b here there same =
      let first = with_first a here in
      let other = with_first b there in
      let found : find (has_r (value_of b.r)) uses ≡ Some first.0 =
      subst (λ r. find (has_r r) uses ≡ Some first.0) same first.1 in
      let one : first.0 ≡ other.0 = (let e = sym found ∙ other.1 in cc e) in
      sym first.2 ∙ ap (λ u. u.key) one ∙ other.2

pub nonces_are_of_one_key : NoncesAreOfOneKey
nonces_are_of_one_key panel inputs documents evidence found are nothing =
    let uses = are.shared_nonces.uses in
    let none : shared_nonces uses ≡ [] =
    sym are.shared_nonces.found_are ∙ nothing.shared_nonces in
    record {
      uses = uses;
      are_uses = are.shared_nonces.are_uses;
      by_one_key = by_one_key uses none;
    }
