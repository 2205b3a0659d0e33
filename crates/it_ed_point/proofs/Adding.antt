-- Steps of double and add.
use Rattle.std.proofs.Common.{◌≡◌, ℕ, suc, ◌+◌, ◌-◌, ◌/◌, ◌^◌, ◌<◌, ◌≤◌, if◌then◌else◌, Bool, true, false, sym, ap, ◌∙◌, arith}
use Rattle.it_ed_point.specs.Curve.{added, double_of, sum_of}
use Rattle.it_numbers.specs.Modular.{is_odd}
use Rattle.it_numbers.proofs.Bits.{next_place}
use Rattle.it_ed_point.specs.declared.point.Point.{Point}

added_bit : (bits m : ℕ) (total step : Point) (t : Bool) → is_odd m ≡ t
    → added (suc bits) m total step ≡ added bits (m / 2) (if t then sum_of total step else total) (double_of step)
unfolding added
added_bit bits m total step t e =
    ap (λ (v : Bool). added bits (m / 2) (if v then sum_of total step else total) (double_of step)) e

pub odd_place : (bits i n : ℕ) (total step total' step' x : Point) (t : Bool) → i < bits → t ≡ is_odd (n / 2 ^ i) → t ≡ true
    → total' ≡ sum_of total step → step' ≡ double_of step
    → added (bits - i) (n / 2 ^ i) total step ≡ x → added (bits - (i + 1)) (n / 2 ^ (i + 1)) total' step' ≡ x
odd_place bits i n total step total' step' x t below test h a b k =
    let at : bits - i ≡ suc (bits - (i + 1)) = omega arith in
    let bit = added_bit (bits - (i + 1)) (n / 2 ^ i) total step true (sym test ∙ h) in
    rw (a, b, next_place n i) (sym bit ∙ ap (λ (m : ℕ). added m (n / 2 ^ i) total step) (sym at) ∙ k)

pub even_place : (bits i n : ℕ) (total step total' step' x : Point) (t : Bool) → i < bits → t ≡ is_odd (n / 2 ^ i) → t ≡ false
    → total' ≡ total → step' ≡ double_of step
    → added (bits - i) (n / 2 ^ i) total step ≡ x → added (bits - (i + 1)) (n / 2 ^ (i + 1)) total' step' ≡ x
even_place bits i n total step total' step' x t below test h a b k =
    let at : bits - i ≡ suc (bits - (i + 1)) = omega arith in
    let bit = added_bit (bits - (i + 1)) (n / 2 ^ i) total step false (sym test ∙ h) in
    rw (a, b, next_place n i) (sym bit ∙ ap (λ (m : ℕ). added m (n / 2 ^ i) total step) (sym at) ∙ k)

pub no_place : (bits i n : ℕ) (total step x : Point) → bits ≤ i → added (bits - i) (n / 2 ^ i) total step ≡ x → total ≡ x
unfolding added
no_place bits i n total step x past k =
    let at : bits - i ≡ 0 = omega arith in
    rw at at k
