-- The point that the numbers of a signature lead to.
use Rattle.std.proofs.Common.{◌≡◌, ℕ, ◌-◌, ◌*◌, ◌%◌, ◌<◌, ap, ◌∙◌}
use native.Mathlib.Nat.{mod-eq_of_lt}
use Rattle.std.proofs.lemmas.Nat.{mul-mod_first}
use Rattle.it_numbers.specs.Modular.{power_mod}
use Rattle.it_p384_order.specs.Order.{group_order}
use Rattle.it_p384_point.specs.declared.point.Point.{Point}
use Rattle.it_p384_point.specs.Points.{affine, base, sum_of_multiples}
use Rattle.it_p384.specs.Key.{Key}
use Rattle.it_p384.specs.Signature.{combination_of}

pub combination_by : (key : Key) (e r s sn w en p1 u1 rn p2 u2 : ℕ) (k b total : Point)
    → r < group_order → s < group_order
    → sn ≡ s % group_order → w ≡ power_mod sn (group_order - 2) group_order
    → en ≡ e % group_order → p1 ≡ (en * w) % group_order → u1 ≡ p1
    → rn ≡ r % group_order → p2 ≡ (rn * w) % group_order → u2 ≡ p2
    → b ≡ base → k ≡ affine key.x key.y → total ≡ sum_of_multiples 384 u1 u2 b k
    → total ≡ combination_of key e r s
unfolding combination_of
combination_by key e r s sn w en p1 u1 rn p2 u2 k b total lr ls hs hw he hp1 hu1 hr hp2 hu2 hb hk ht =
    let inverse = power_mod s (group_order - 2) group_order in
    let ew : w ≡ inverse = hw ∙ ap (λ (n : ℕ). power_mod n (group_order - 2) group_order) (hs ∙ mod-eq_of_lt ls) in
    let first = (e * inverse) % group_order in
    let second = (r * inverse) % group_order in
    let e1 : u1 ≡ first =
    hu1 ∙ hp1 ∙ ap (λ (n : ℕ). (n * w) % group_order) he ∙ mul-mod_first e w group_order ∙ ap (λ (n : ℕ). (e * n) % group_order) ew in
    let e2 : u2 ≡ second =
    hu2 ∙ hp2 ∙ ap (λ (n : ℕ). (n * w) % group_order) (hr ∙ mod-eq_of_lt lr) ∙ ap (λ (n : ℕ). (r * n) % group_order) ew in
    ht ∙ ap (λ (n : ℕ). sum_of_multiples 384 n u2 b k) e1
    ∙ ap (λ (n : ℕ). sum_of_multiples 384 first n b k) e2
    ∙ ap (λ (p : Point). sum_of_multiples 384 first second p k) hb
    ∙ ap (λ (p : Point). sum_of_multiples 384 first second base p) hk
