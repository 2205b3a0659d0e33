-- Steps of double and add.
use Rattle.std.proofs.Common.{◌≡◌, ℕ, suc, ◌+◌, ◌-◌, ◌/◌, ◌^◌, ◌<◌, Bool, sym, ap, ◌∙◌, arith, refl}
use Rattle.it_numbers.specs.Modular.{is_odd}
use Rattle.it_numbers.proofs.Bits.{place_more}
use Rattle.it_p384_point.specs.declared.point.Point.{Point}
use Rattle.it_p384_point.specs.Points.{added_by, infinity, double_of, sum_of_multiples}

module _ (p q : Point) where
  one_bit : (bits n m : ℕ) → sum_of_multiples (suc bits) n m p q
      ≡ added_by (is_odd n) (is_odd m) p q (double_of (sum_of_multiples bits (n / 2) (m / 2) p q))
  unfolding sum_of_multiples
  one_bit bits n m = refl

  -- the sum over the bits above those at a place
  abbrev sum_above : ℕ → ℕ → ℕ → Point
  sum_above n m i = sum_of_multiples i (n / 2 ^ (384 - i)) (m / 2 ^ (384 - i)) p q

  moved : (n m i : ℕ) → i < 384
      → sum_above n m i ≡ sum_of_multiples i (n / 2 ^ (383 - i) / 2) (m / 2 ^ (383 - i) / 2) p q
  moved n m i below = ap (λ k. sum_of_multiples i k (m / 2 ^ (384 - i)) p q) (place_more 384 n i below)
      ∙ ap (λ k. sum_of_multiples i (n / 2 ^ (383 - i) / 2) k p q) (place_more 384 m i below)

  pub next_place : (n m i : ℕ) (a b : Bool) (r s u : Point) → i < 384
      → a ≡ is_odd (n / 2 ^ (383 - i)) → b ≡ is_odd (m / 2 ^ (383 - i))
      → r ≡ sum_above n m i → s ≡ double_of r → u ≡ added_by a b p q s
      → u ≡ sum_above n m (i + 1)
  next_place n m i a b r s u below first second h f g =
      let to : 384 - (i + 1) ≡ 383 - i = omega arith in
      let up : i + 1 ≡ suc i = omega arith in
      let twice = double_of (sum_of_multiples i (n / 2 ^ (383 - i) / 2) (m / 2 ^ (383 - i) / 2) p q) in
      rw (to, up) (g ∙ ap (added_by a b p q) (f ∙ ap double_of (h ∙ moved n m i below))
      ∙ ap (λ t. added_by t b p q twice) first
      ∙ ap (λ t. added_by (is_odd (n / 2 ^ (383 - i))) t p q twice) second
      ∙ sym (one_bit i (n / 2 ^ (383 - i)) (m / 2 ^ (383 - i))))

  pub no_place : (n m : ℕ) (r : Point) → r ≡ infinity → r ≡ sum_above n m 0
  unfolding sum_of_multiples
  no_place n m r e = e

  pub all_places : (n m i : ℕ) (r : Point) → i ≡ 384 → r ≡ sum_above n m i
      → r ≡ sum_of_multiples 384 n m p q
  all_places n m i r e h =
      let at : 384 - i ≡ 0 = omega arith in
      let whole : (k : ℕ) → k / 2 ^ (384 - i) ≡ k = λ k. rw at (let one : k / 1 ≡ k = omega arith in one) in
      h ∙ ap (λ k. sum_of_multiples i k (m / 2 ^ (384 - i)) p q) (whole n)
      ∙ ap (λ k. sum_of_multiples i n k p q) (whole m)
      ∙ ap (λ k. sum_of_multiples k n m p q) e
