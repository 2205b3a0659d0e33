-- Steps of decoding a point.
use Rattle.std.proofs.Common.{◌≡◌, ℕ, ◌/◌, ◌%◌, ◌^◌, nat_eq, if◌then◌else◌, Bool, true, false, Option, Some, None, List, refl, sym, ap, ◌∙◌}
use Rattle.std.specs.Option.{option_and_then}
use Rattle.it_ed_field.specs.Prime.{minus_mod, plus_mod, prime, times_mod}
use Rattle.it_ed_point.specs.Curve.{affine, curve_d, root_of_minus_one}
use Rattle.it_ed_point.specs.Encoding.{candidate_root, decoded, is_odd_zero, point_at, root_of_ratio, root_told, signed, signed_point}
use Rattle.it_numbers.specs.Bytes.{little}
use Rattle.it_numbers.specs.Modular.{number_below}
use Rattle.it_ed_point.specs.declared.point.Point.{Point}

pub chosen : {A : Type 0} (b c : Bool) (x y : A) → b ≡ c → (if b then x else y) ≡ (if c then x else y)
chosen b c x y e = ap (λ (t : Bool). if t then x else y) e

root_by : (u v root square : ℕ) → root ≡ candidate_root u v → square ≡ times_mod v (times_mod root root)
    → root_told u square root ≡ root_of_ratio u v
unfolding root_of_ratio
root_by u v root square e f = rw (f, e) refl

pub first_root : (u v root inner square : ℕ) (t : Bool) → root ≡ candidate_root u v → inner ≡ times_mod root root
    → square ≡ times_mod v inner → t ≡ nat_eq square u → t ≡ true → Some root ≡ root_of_ratio u v
first_root u v root inner square t e i f g h =
    sym (chosen (nat_eq square u) true (Some root) _ (sym g ∙ h))
    ∙ root_by u v root square e (f ∙ ap (λ (n : ℕ). times_mod v n) i)

pub second_root : (u v root inner square opposite other factor : ℕ) (t s : Bool) → root ≡ candidate_root u v → inner ≡ times_mod root root
    → square ≡ times_mod v inner → t ≡ nat_eq square u → t ≡ false
    → opposite ≡ minus_mod 0 u → s ≡ nat_eq square opposite → s ≡ true
    → factor ≡ root_of_minus_one → other ≡ times_mod root factor → Some other ≡ root_of_ratio u v
second_root u v root inner square opposite other factor t s e i f g h o p q k w =
    let test : nat_eq square (minus_mod 0 u) ≡ true = ap (nat_eq square) (sym o) ∙ sym p ∙ q in
    ap (λ (n : ℕ). Some n) (w ∙ ap (times_mod root) k)
    ∙ sym (chosen (nat_eq square (minus_mod 0 u)) true _ None test)
    ∙ sym (chosen (nat_eq square u) false (Some root) _ (sym g ∙ h))
    ∙ root_by u v root square e (f ∙ ap (λ (n : ℕ). times_mod v n) i)

pub no_root : (u v root inner square opposite : ℕ) (t s : Bool) → root ≡ candidate_root u v → inner ≡ times_mod root root
    → square ≡ times_mod v inner → t ≡ nat_eq square u → t ≡ false
    → opposite ≡ minus_mod 0 u → s ≡ nat_eq square opposite → s ≡ false → None ≡ root_of_ratio u v
no_root u v root inner square opposite t s e i f g h o p q =
    let test : nat_eq square (minus_mod 0 u) ≡ false = ap (nat_eq square) (sym o) ∙ sym p ∙ q in
    sym (chosen (nat_eq square (minus_mod 0 u)) false _ None test)
    ∙ sym (chosen (nat_eq square u) false (Some root) _ (sym g ∙ h))
    ∙ root_by u v root square e (f ∙ ap (λ (n : ℕ). times_mod v n) i)

pub no_signed : (x y sign : ℕ) (t : Bool) → t ≡ is_odd_zero x sign → t ≡ true → None ≡ signed_point x y sign
unfolding signed_point
no_signed x y sign t e h = sym (chosen (is_odd_zero x sign) true None _ (sym e ∙ h))

pub one_signed : (x y sign : ℕ) (t : Bool) → t ≡ is_odd_zero x sign → t ≡ false
    → Some (affine (signed x sign) y) ≡ signed_point x y sign
unfolding signed_point
one_signed x y sign t e h = sym (chosen (is_odd_zero x sign) false None _ (sym e ∙ h))

pub point_by : (y sign square first u d dy second v : ℕ) (r : Option ℕ) → square ≡ times_mod y y → first ≡ 1
    → u ≡ minus_mod square first → d ≡ curve_d → dy ≡ times_mod d square → second ≡ 1 → v ≡ plus_mod dy second
    → r ≡ root_of_ratio u v → option_and_then (λ (x : ℕ). signed_point x y sign) r ≡ point_at y sign
unfolding point_at
point_by y sign square first u d dy second v r e e1 a e2 b e3 f h = rw (h, f, e3, b, e2, a, e1, e) refl

pub decoded_by : (bytes : List ℕ) (r : Option ℕ) → r ≡ number_below prime (little bytes % 2 ^ 255)
    → option_and_then (λ (y : ℕ). point_at y (little bytes / 2 ^ 255 % 2)) r ≡ decoded bytes
unfolding decoded
decoded_by bytes r e = rw e refl

pub opposite_is : (z u o : ℕ) → z ≡ 0 → o ≡ minus_mod z u → o ≡ minus_mod 0 u
opposite_is z u o e h = h ∙ ap (λ (n : ℕ). minus_mod n u) e

pub affine_is : (x y z t s : ℕ) → x ≡ s → z ≡ 1 → t ≡ times_mod x y
    → (let p : Point = record { x = x; y = y; z = z; t = t } in p) ≡ affine s y
affine_is x y z t s e f g = rw (g, f, e) refl
