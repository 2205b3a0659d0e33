-- What checks answer where others follow.
use Rattle.std.proofs.Common.{◌≡◌, ◌∙◌, ℕ, zero, suc, ◌+◌, ◌<◌, List, [], ◌∷◌, ◌++◌, Option, Some, None}
use Rattle.std.proofs.Common.{arith, ap, length, option_map, refl, slice_get}
use Rattle.it_dsse.specs.Check.{Check}
use Rattle.it_dsse.specs.Panel.{KeyNumber, key_at, key_from, panel_of}
use Rattle.it_dsse.specs.Signed.{tries_for}
use Rattle.it_dsse.specs.Vouched.{is_vouched}
use Rattle.it_dsse.specs.declared.envelope.Signature.{Signature}
use Rattle.it_dsse.specs.declared.key_object.KeyObject.{KeyObject}

module _ (id : List ℕ) (object : KeyObject) where
  first_step : (place : ℕ) (o : Option ℕ) (rest more : Option KeyNumber) (key : KeyNumber)
      → (rest ≡ Some key → more ≡ Some key)
      → key_at place o rest ≡ Some key → key_at place o more ≡ Some key
  first_step place (Some n) rest more key later e = e
  first_step place None rest more key later e = later e

  -- a key that is known stays known where checks follow
  pub known_first : (xs ys : List Check) (place : ℕ) (key : KeyNumber)
      → key_from place xs id object ≡ Some key → key_from place (xs ++ ys) id object ≡ Some key
  known_first [] ys place key e = cc
  known_first (x ∷ xs) ys place key e =
      first_step place (x.key_of id object) (key_from (suc place) xs id object)
      (key_from (suc place) (xs ++ ys) id object) key (known_first xs ys (suc place) key) e

  later_step : (place : ℕ) (o : Option ℕ) (rest more last : Option KeyNumber)
      → (rest ≡ None → more ≡ last)
      → key_at place o rest ≡ None → key_at place o more ≡ last
  later_step place (Some n) rest more last later e = cc
  later_step place None rest more last later e = later e

  -- a key that is not known is asked of the checks that follow
  pub known_later : (xs ys : List Check) (place : ℕ) → key_from place xs id object ≡ None
      → key_from place (xs ++ ys) id object ≡ key_from (place + length xs) ys id object
  known_later [] ys place e =
      let same : place ≡ place + 0 = omega arith in
      ap (λ p. key_from p ys id object) same
  known_later (x ∷ xs) ys place e =
      let same : suc place + length xs ≡ place + suc (length xs) = omega arith in
      later_step place (x.key_of id object) (key_from (suc place) xs id object)
      (key_from (suc place) (xs ++ ys) id object)
      (key_from (place + suc (length xs)) ys id object)
      (λ h. known_later xs ys (suc place) h ∙ ap (λ p. key_from p ys id object) same) e

  one_step : (place : ℕ) (o : Option ℕ) → key_at place o None ≡ option_map (λ n. (place, n)) o
  one_step place None = refl
  one_step place (Some n) = refl

  -- a key that one check more is asked for
  pub known_last : (xs : List Check) (check : Check) → key_from 0 xs id object ≡ None
      → key_from 0 (xs ++ check ∷ []) id object
      ≡ option_map (λ n. (length xs, n)) (check.key_of id object)
  known_last xs check e =
      let at : 0 + length xs ≡ length xs = omega arith in
      known_later xs (check ∷ []) 0 e ∙ ap (λ p. key_from p (check ∷ []) id object) at
      ∙ one_step (length xs) (check.key_of id object)

-- ---- the check at a place
before : {X : Type 0} (xs ys : List X) (i : ℕ) → i < length xs
    → slice_get (xs ++ ys) i ≡ slice_get xs i
before [] ys i below = absurd (omega arith)
before (x ∷ xs) ys zero below = refl
before (x ∷ xs) ys (suc i) below = before xs ys i (omega arith)

pub behind : {X : Type 0} (xs : List X) (y : X) (ys : List X)
    → slice_get (xs ++ y ∷ ys) (length xs) ≡ Some y
behind [] y ys = refl
behind (x ∷ xs) y ys = behind xs y ys

module _ (xs ys : List Check) (key : KeyNumber) (below : key.0 < length xs) (id message : List ℕ)
    (signatures : List Signature) where
  pub vouched_first : is_vouched (panel_of xs) id key message signatures
      ≡ is_vouched (panel_of (xs ++ ys)) id key message signatures
  vouched_first = rw (before xs ys key.0 below) refl

  pub tries_first : tries_for (panel_of xs) id key message signatures
      ≡ tries_for (panel_of (xs ++ ys)) id key message signatures
  tries_first = rw (before xs ys key.0 below) refl
