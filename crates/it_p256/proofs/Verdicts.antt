-- From what was computed to the verdict.
use Rattle.std.proofs.Common.{◌≡◌, ◌≢◌, ℕ, ◌-◌, ◌*◌, ◌%◌, ◌<◌, ◌↔◌, IsTrue, Bool, true, false, nat_lt, nat_eq, sym, ap, ◌∙◌, arith}
use native.Mathlib.Nat.{mod-eq_of_lt}
use Rattle.std.proofs.lemmas.Nat.{mul-mod_first}
use Rattle.it_numbers.specs.Modular.{power_mod}
use Rattle.it_p256_order.specs.Order.{group_order}
use Rattle.it_p256_point.specs.declared.point.Point.{Point}
use Rattle.it_p256_point.specs.Points.{affine, base, sum_of_multiples, first_coordinate}
use Rattle.it_p256.specs.Key.{Key}
use Rattle.it_p256.specs.Signature.{IsInRange, combination_of, Agrees, IsSigned}
use Rattle.it_p256.proofs.Tests.{is_less, less_test, same_of, same_test, other_of}

pub zero_refused : (n z : ℕ) (t : Bool) → z ≡ 0 → t ≡ nat_eq n z → t ≡ true → IsTrue false ↔ IsInRange n
zero_refused n z t at e h =
    let none : n ≡ 0 = same_of n z t e h ∙ at in
    (λ (no : false ≡ true). cc, λ range. let p : 0 < n = range.positive in absurd (omega arith))

pub range_judged : (n z m : ℕ) (t r : Bool) → z ≡ 0 → t ≡ nat_eq n z → t ≡ false → m ≡ group_order → r ≡ nat_lt n m → IsTrue r ↔ IsInRange n
range_judged n z m t r at e h am er =
    let some : n ≢ z = other_of n z t e h in
    let above : 0 < n = omega arith in (
      λ yes. record { positive = above; below = is_less n m group_order r am er yes },
      λ range. less_test n m group_order r am er range.below,
    )

pub combination_by : (key : Key) (e r s sn w en p1 u1 rn p2 u2 : ℕ) (k b total : Point)
    → r < group_order → s < group_order
    → sn ≡ s % group_order → w ≡ power_mod sn (group_order - 2) group_order
    → en ≡ e % group_order → p1 ≡ (en * w) % group_order → u1 ≡ p1
    → rn ≡ r % group_order → p2 ≡ (rn * w) % group_order → u2 ≡ p2
    → b ≡ base → k ≡ affine key.x key.y → total ≡ sum_of_multiples 256 u1 u2 b k
    → total ≡ combination_of key e r s
unfolding combination_of
combination_by key e r s sn w en p1 u1 rn p2 u2 k b total lr ls hs hw he hp1 hu1 hr hp2 hu2 hb hk ht =
    let inverse = power_mod s (group_order - 2) group_order in
    let ew : w ≡ inverse = hw ∙ ap (λ (n : ℕ). power_mod n (group_order - 2) group_order) (hs ∙ mod-eq_of_lt ls) in
    let first = (e * inverse) % group_order in
    let second = (r * inverse) % group_order in
    let e1 : u1 ≡ first =
    hu1 ∙ hp1 ∙ ap (λ (n : ℕ). (n * w) % group_order) he ∙ mul-mod_first e w group_order ∙ ap (λ (n : ℕ). (e * n) % group_order) ew in
    let e2 : u2 ≡ second =
    hu2 ∙ hp2 ∙ ap (λ (n : ℕ). (n * w) % group_order) (hr ∙ mod-eq_of_lt lr) ∙ ap (λ (n : ℕ). (r * n) % group_order) ew in
    ht ∙ ap (λ (n : ℕ). sum_of_multiples 256 n u2 b k) e1
    ∙ ap (λ (n : ℕ). sum_of_multiples 256 first n b k) e2
    ∙ ap (λ (p : Point). sum_of_multiples 256 first second p k) hb
    ∙ ap (λ (p : Point). sum_of_multiples 256 first second base p) hk

pub agreement : (key : Key) (e r s f fl n nl : ℕ) (p : Point) (t v : Bool) → p ≡ combination_of key e r s → t ≡ nat_eq p.z 0 → t ≡ false
    → f ≡ first_coordinate p → fl ≡ f → n ≡ fl % group_order → nl ≡ n → v ≡ nat_eq nl r
    → IsTrue v ↔ Agrees key e r s
agreement key e r s f fl n nl p t v at eq h hf hfl hn hnl hv =
    let some : (combination_of key e r s).z ≢ 0 = λ z. other_of p.z 0 t eq h (ap (λ (q : Point). q.z) at ∙ z) in
    let is : nl ≡ first_coordinate (combination_of key e r s) % group_order =
    hnl ∙ hn ∙ ap (λ (k : ℕ). k % group_order) (hfl ∙ hf ∙ ap first_coordinate at) in (
      λ yes. record { finite = some; same = sym is ∙ same_of nl r v hv yes },
      λ good. same_test nl r v hv (is ∙ good.same),
    )

pub judged : (key : Key) (e r s : ℕ) (t u v : Bool) → IsTrue t ↔ IsInRange r → t ≡ true → IsTrue u ↔ IsInRange s → u ≡ true
    → IsTrue v ↔ Agrees key e r s → IsTrue v ↔ IsSigned key e r s
judged key e r s t u v hr yr hs ys hv = (
  λ yes. record { r_good = hr.0 yr; s_good = hs.0 ys; agrees = hv.0 yes },
  λ signed. hv.1 signed.agrees,
)
