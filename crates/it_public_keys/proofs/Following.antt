-- What checks answer before and after others.
use Rattle.std.proofs.Common.{◌≡◌, ◌∙◌, ℕ, zero, suc, ◌+◌, ◌<◌, List, [], ◌∷◌, ◌++◌, Bool, true, false}
use Rattle.std.proofs.Common.{Option, Some, None, arith, ap, length, map, get_or, option_map, refl, sym, slice_get}
use Rattle.std.proofs.lemmas.List.{length-map}
use Rattle.it_dsse.specs.Check.{Check}
use Rattle.it_dsse.specs.Panel.{KeyNumber, key_at, key_from, panel_of}
use Rattle.it_dsse.specs.Ring.{ring_check}
use Rattle.it_dsse.specs.Signed.{tries_for}
use Rattle.it_dsse.specs.Vouched.{is_vouched, is_vouched_by, tries_by}
use Rattle.it_dsse.specs.declared.envelope.Signature.{Signature}
use Rattle.it_dsse.specs.declared.key_object.KeyObject.{KeyObject}
use Rattle.it_dsse.specs.declared.ring_entry.RingEntry.{RingEntry}
use Rattle.it_dsse.proofs.Panels.{check_at_place}
use Rattle.it_public_keys.specs.NamedKeys.{public_key_check}
use Rattle.it_public_keys.specs.OwnChecks.{own_checks}

module _ (id : List ℕ) (object : KeyObject) where
  first_step : (place : ℕ) (o : Option ℕ) (rest more : Option KeyNumber) (key : KeyNumber)
      → (rest ≡ Some key → more ≡ Some key)
      → key_at place o rest ≡ Some key → key_at place o more ≡ Some key
  first_step place (Some n) rest more key later e = e
  first_step place None rest more key later e = later e

  -- a key that is known stays known where checks follow
  known_first : (xs ys : List Check) (place : ℕ) (key : KeyNumber)
      → key_from place xs id object ≡ Some key → key_from place (xs ++ ys) id object ≡ Some key
  known_first [] ys place key e = cc
  known_first (x ∷ xs) ys place key e =
      first_step place (x.key_of id object) (key_from (suc place) xs id object)
      (key_from (suc place) (xs ++ ys) id object) key (known_first xs ys (suc place) key) e

  later_step : (place : ℕ) (o : Option ℕ) (rest more last : Option KeyNumber)
      → (rest ≡ None → more ≡ last)
      → key_at place o rest ≡ None → key_at place o more ≡ last
  later_step place (Some n) rest more last later e = cc
  later_step place None rest more last later e = later e

  -- a key that is not known is asked of the checks that follow
  known_later : (xs ys : List Check) (place : ℕ) → key_from place xs id object ≡ None
      → key_from place (xs ++ ys) id object ≡ key_from (place + length xs) ys id object
  known_later [] ys place e =
      let same : place ≡ place + 0 = omega arith in
      ap (λ p. key_from p ys id object) same
  known_later (x ∷ xs) ys place e =
      let same : suc place + length xs ≡ place + suc (length xs) = omega arith in
      later_step place (x.key_of id object) (key_from (suc place) xs id object)
      (key_from (suc place) (xs ++ ys) id object)
      (key_from (place + suc (length xs)) ys id object)
      (λ h. known_later xs ys (suc place) h ∙ ap (λ p. key_from p ys id object) same) e

  one_step : (place : ℕ) (o : Option ℕ) → key_at place o None ≡ option_map (λ n. (place, n)) o
  one_step place None = refl
  one_step place (Some n) = refl

  -- what the rings know
  pub ring_known : (rings : List (List RingEntry)) (asked : Bool) (key : KeyNumber)
      → Some key ≡ key_from 0 (map ring_check rings) id object
      → Some key ≡ (panel_of (own_checks rings asked)).key_of id object
  ring_known rings asked key e = sym (known_first (map ring_check rings) _ 0 key (sym e))

  -- what is known where there are only rings
  pub none_known : (rings : List (List RingEntry))
      → None ≡ key_from 0 (map ring_check rings) id object
      → None ≡ (panel_of (own_checks rings false)).key_of id object
  none_known rings e = sym (known_later (map ring_check rings) [] 0 (sym e))

  -- what is known as a public key
  pub public_known : (rings : List (List RingEntry)) (found : Option ℕ)
      → None ≡ key_from 0 (map ring_check rings) id object
      → found ≡ public_key_check.key_of id object
      → option_map (λ n. (length rings, n)) found
      ≡ (panel_of (own_checks rings true)).key_of id object
  public_known rings found e is =
      let at : 0 + length (map ring_check rings) ≡ length rings =
      omega (arith, length-map rings ring_check) in
      sym (known_later (map ring_check rings) (public_key_check ∷ []) 0 (sym e)
      ∙ ap (λ p. key_from p (public_key_check ∷ []) id object) at
      ∙ one_step (length rings) (public_key_check.key_of id object)
      ∙ ap (option_map (λ n. (length rings, n))) (sym is))

-- the check at a place
before : {X : Type 0} (xs ys : List X) (i : ℕ) (x : X) → slice_get xs i ≡ Some x
    → slice_get (xs ++ ys) i ≡ Some x
before [] ys i x e = cc
before (y ∷ xs) ys zero x e = e
before (y ∷ xs) ys (suc i) x e = before xs ys i x e

behind : {X : Type 0} (xs : List X) (y : X) (ys : List X)
    → slice_get (xs ++ y ∷ ys) (length xs) ≡ Some y
behind [] y ys = refl
behind (x ∷ xs) y ys = behind xs y ys

pub ring_at : (rings : List (List RingEntry)) (asked : Bool) (place : ℕ) (ring : List RingEntry)
    → place < length rings → ring ≡ get_or rings place ring
    → slice_get (own_checks rings asked) place ≡ Some (ring_check ring)
ring_at rings asked place ring below here =
    before (map ring_check rings) _ place (ring_check ring)
    (check_at_place ring_check rings place ring below here)

pub public_at : (rings : List (List RingEntry)) (asked : Bool) → asked ≡ true
    → slice_get (own_checks rings asked) (length rings) ≡ Some public_key_check
public_at rings asked is =
    rw is (ap (slice_get (map ring_check rings ++ public_key_check ∷ []))
    (sym (length-map rings ring_check))
    ∙ behind (map ring_check rings) public_key_check [])

module _ (checks : List Check) (place : ℕ) (check : Check) (at : slice_get checks place ≡ Some check)
    (id : List ℕ) (n : ℕ) (message : List ℕ) (signatures : List Signature) where
  pub vouched_at : is_vouched_by check id n message signatures
      ≡ is_vouched (panel_of checks) id (place, n) message signatures
  vouched_at = rw at refl

  pub tries_at : tries_by check id n message signatures
      ≡ tries_for (panel_of checks) id (place, n) message signatures
  tries_at = rw at refl
