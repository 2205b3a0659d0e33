-- How many signatures are tried.
use Rattle.std.proofs.Common.{◌≡◌, ℕ, suc, ◌+◌, ◌≤◌, List, [], ◌∷◌, Bool, true, false, ◌&&◌, ◌||◌}
use Rattle.std.proofs.Common.{cond, length, filter, None, Some, inl, inr, Contains, refl, ap, arith}
use Rattle.std.proofs.Common.{◌∙◌}
use Rattle.std.specs.List.{list_any}
use Rattle.it_base.proofs.Members.{in_cases, in_none}
use Rattle.it_dsse.specs.Panel.{KeyNumber, Panel}
use Rattle.it_dsse.specs.Signed.{Signed, first_place, is_admitted, message_of, tries}
use Rattle.it_dsse.specs.declared.envelope.Envelope.{Envelope}
use Rattle.it_dsse.specs.declared.key_object.KeyObject.{KeyObject}
use Rattle.it_dsse.proofs.Trying.{first_place_step}

step_at_most : (a b : Bool) (n m : ℕ) → n ≤ m → cond (a && b) 1 (cond a 1 0 + n) ≤ suc m
step_at_most true true n m h = omega arith
step_at_most true false n m h = omega arith
step_at_most false b n m h = omega arith

step_at_least : (a b : Bool) (n : ℕ) → 1 ≤ n → 1 ≤ cond (a && b) 1 (cond a 1 0 + n)
step_at_least true true n h = omega arith
step_at_least true false n h = omega arith
step_at_least false b n h = omega arith

step_admitted : (a b : Bool) (n : ℕ) → a ≡ true → 1 ≤ cond (a && b) 1 (cond a 1 0 + n)
step_admitted true true n e = omega arith
step_admitted true false n e = omega arith
step_admitted false b n e = cc

neither : (a b : Bool) → false ≡ (a || b) → (a ≡ false) × (false ≡ b)
neither true b e = cc
neither false b e = (refl, e)

module _ {X : Type 0} (p q : X → Bool) where
  tried_at_most : (xs : List X) → first_place q (filter p xs) ≤ length xs
  unfolding first_place
  tried_at_most [] = omega arith
  tried_at_most (x ∷ xs) =
      rw (first_place_step p q x xs) (step_at_most (p x) (q x) (first_place q (filter p xs))
      (length xs) (tried_at_most xs))

  tried_at_least : (xs : List X) (x : X) → Contains xs x → p x ≡ true
      → 1 ≤ first_place q (filter p xs)
  tried_at_least [] x c passes = absurd (in_none x c)
  tried_at_least (y ∷ ys) x c passes = rw (first_place_step p q y ys) (elim (in_cases y ys x c) [
    | inl same ↦ step_admitted (p y) (q y) (first_place q (filter p ys)) (ap p same ∙ passes)
    | inr later ↦ step_at_least (p y) (q y) (first_place q (filter p ys))
        (tried_at_least ys x later passes)
  ])

  tried_none : (xs : List X) → false ≡ list_any p xs → first_place q (filter p xs) ≡ 0
  unfolding first_place
  tried_none [] none = refl
  tried_none (x ∷ xs) none =
      let refused = neither (p x) (list_any p xs) none in
      rw (first_place_step p q x xs, refused.0, tried_none xs refused.1) refl

module _ (panel : Panel) (envelope : Envelope) (id : List ℕ) (object : KeyObject) where
  -- no more signatures are tried than there are
  pub tries_at_most : tries panel envelope id object ≤ length envelope.signatures
  tries_at_most = elim (panel.key_of id object) as (λ o. panel.key_of id object ≡ o
      → tries panel envelope id object ≤ length envelope.signatures) [
        | None ↦ λ e. rw e (omega arith)
        | Some n ↦ λ e. rw e
            (tried_at_most (is_admitted id) (λ s. panel.is_valid n (message_of envelope) s.sig)
            envelope.signatures)
      ] refl

  -- where no signature is admitted, none is tried
  pub none_is_tried : false ≡ list_any (is_admitted id) envelope.signatures
      → tries panel envelope id object ≡ 0
  none_is_tried none = elim (panel.key_of id object) as (λ o. panel.key_of id object ≡ o
      → tries panel envelope id object ≡ 0) [
        | None ↦ λ e. rw e refl
        | Some n ↦ λ e. rw e (tried_none (is_admitted id)
            (λ s. panel.is_valid n (message_of envelope) s.sig) envelope.signatures none)
      ] refl

  -- where the key signed, a signature is tried
  pub signed_tries : (n : KeyNumber) → Signed panel envelope id object n
      → 1 ≤ tries panel envelope id object
  signed_tries n signed =
      let s = signed.signature in
      rw signed.key (tried_at_least (is_admitted id)
      (λ s. panel.is_valid n (message_of envelope) s.sig) envelope.signatures s.1
      (s.0, s.2, s.3) s.4.admitted)
