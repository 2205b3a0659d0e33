-- What stands before the last @ of a name.
use Rattle.std.proofs.Common.{◌≡◌, ◌≢◌, ◌∙◌, ◌+◌, ◌-◌, ◌++◌, ◌∷◌, [], ◌||◌, ℕ, List, Bool, true}
use Rattle.std.proofs.Common.{false, Some, None, if◌then◌else◌, ap, arith, cond, length, length-append}
use Rattle.std.proofs.Common.{not, refl, reverse, sym, take}
use Rattle.std.specs.List.{before_last, list_any, prefix_len, suffix_len}
use Rattle.std.proofs.lemmas.List.{reverse-append, take-append-le, take_all}
use Rattle.std.proofs.lemmas.Bool.Decides.{nat_tests}
use Rattle.std.proofs.lemmas.List.Folds.{list_any-append}
use Rattle.it_signer_notes.specs.Nearest.{before_at, is_at}

chosen : (b : Bool) (front : List ℕ) → b ≡ true → (if b then Some front else None) ≡ Some front
chosen b front is = rw is refl

alike : (a b : Bool) (front other : List ℕ) → a ≡ b → front ≡ other
    → (if a then Some front else None) ≡ (if b then Some other else None)
alike a b front other same fronts = rw (same, fronts) refl

or_true : (b : Bool) → (b || true) ≡ true
or_true true = refl
or_true false = refl

or_false : (b : Bool) → (b || false) ≡ b
or_false true = refl
or_false false = refl

module _ (front : List ℕ) (byte : ℕ) where
  abbrev whole : List ℕ
  whole = front ++ byte ∷ []

  abbrev others : List ℕ → ℕ
  others name = suffix_len (λ b. not (is_at b)) name

  behind : others whole ≡ prefix_len (λ b. not (is_at b)) (byte ∷ reverse front)
  behind = ap (prefix_len (λ b. not (is_at b))) (reverse-append front (byte ∷ []))

  any : list_any is_at whole ≡ (list_any is_at front || (is_at byte || false))
  any = list_any-append is_at front (byte ∷ [])

  long : length whole ≡ length front + 1
  long = length-append front (byte ∷ [])

  -- at an @ that stands last
  pub at_last : is_at byte ≡ true → before_at whole ≡ Some front
  at_last is =
      let none : others whole ≡ 0 =
      behind ∙ ap (λ b. cond (not b) (1 + others front) 0) is in
      let count : length whole - others whole - 1 ≡ length front = omega (arith, none, long) in
      let some : list_any is_at whole ≡ true =
      any ∙ ap (λ b. list_any is_at front || (b || false)) is ∙ or_true (list_any is_at front) in
      chosen (list_any is_at whole) (before_last is_at whole) some
      ∙ ap Some (ap (λ n. take n whole) count
      ∙ take-append-le (length front) front (byte ∷ []) (omega arith)
      ∙ take_all (length front) front (omega arith))

  -- another byte that stands last
  pub not_last : is_at byte ≡ false → before_at whole ≡ before_at front
  not_last is =
      let more : others whole ≡ 1 + others front =
      behind ∙ ap (λ b. cond (not b) (1 + others front) 0) is in
      let count : length whole - others whole - 1 ≡ length front - others front - 1 =
      omega (arith, more, long) in
      let same : list_any is_at whole ≡ list_any is_at front =
      any ∙ ap (λ b. list_any is_at front || (b || false)) is ∙ or_false (list_any is_at front) in
      alike (list_any is_at whole) (list_any is_at front) (before_last is_at whole)
      (before_last is_at front) same
      (ap (λ n. take n whole) count
      ∙ take-append-le (length front - others front - 1) front (byte ∷ []) (omega arith))

module _ (name rest front : List ℕ) (byte : ℕ) (is : rest ≡ front ++ byte ∷ [])
    (before : before_at rest ≡ before_at name) where
  pub stops_at : byte ≡ 0x40 → Some front ≡ before_at name
  stops_at at =
      let is_one : is_at byte ≡ true = grind (arith, nat_tests) in
      sym (at_last front byte is_one) ∙ ap before_at (sym is) ∙ before

  pub goes_on : byte ≢ 0x40 → before_at front ≡ before_at name
  goes_on other =
      let is_none : is_at byte ≡ false = grind (arith, nat_tests) in
      sym (not_last front byte is_none) ∙ ap before_at (sym is) ∙ before

pub no_more : (name rest : List ℕ) → length rest ≡ 0 → before_at rest ≡ before_at name
    → None ≡ before_at name
no_more name [] none before = before
no_more name (byte ∷ rest) none before = absurd (omega arith)
