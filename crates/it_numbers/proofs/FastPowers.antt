-- Powers by squares, to compute them at numerals: a proof states power_mod-fast with the fast power
-- computed, and never unfolds power_mod itself.
use Rattle.std.proofs.Common.{◌≡◌, ℕ, zero, suc, ◌*◌, ◌/◌, ◌%◌, ◌^◌, ◌<◌, if◌then◌else◌, Bool, true, false, refl, sym, ap, ◌∙◌, arith}
use native.Mathlib.Nat.{pow-suc, mod-mod}
use Rattle.it_numbers.specs.Modular.{is_odd, power_mod}
use Rattle.it_numbers.proofs.Bits.{odd_rest, even_rest}
use Rattle.it_numbers.proofs.LowestFirst.{odd_step, even_step, no_step}

-- r times s to the exponent e of so many bits, modulo p
unfoldable pub fast_power : ℕ → ℕ → ℕ → ℕ → ℕ → ℕ
fast_power p zero e r s = r
fast_power p (suc bits) e r s = fast_power p bits (e / 2) (if is_odd e then (r * s) % p else r) ((s * s) % p)

step : (p bits e r s : ℕ) (t : Bool) → t ≡ is_odd e → r % p ≡ r
    → ((r' : ℕ) → r' % p ≡ r' → fast_power p bits (e / 2) r' ((s * s) % p) ≡ (r' * ((s * s) % p) ^ (e / 2)) % p)
    → fast_power p bits (e / 2) (if t then (r * s) % p else r) ((s * s) % p) ≡ (r * s ^ e) % p
step p bits e r s true test reduced rest =
    rest ((r * s) % p) (mod-mod (r * s) p) ∙ odd_step r s e p _ (odd_rest e true test refl) refl
step p bits e r s false test reduced rest =
    rest r reduced ∙ even_step r s e p _ (even_rest e false test refl) refl

fast_power-is : (p bits e r s : ℕ) → e < 2 ^ bits → r % p ≡ r → fast_power p bits e r s ≡ (r * s ^ e) % p
unfolding fast_power
fast_power-is p zero e r s below reduced =
    let none : e ≡ 0 = omega arith in
    no_step r s e p _ none reduced refl
fast_power-is p (suc bits) e r s below reduced =
    let half : e / 2 < 2 ^ bits = let power : 2 ^ suc bits ≡ 2 ^ bits * 2 = pow-suc 2 bits in omega arith in
    step p bits e r s (is_odd e) refl reduced (λ r' small. fast_power-is p bits (e / 2) r' ((s * s) % p) half small)

pub power_mod-fast : (p bits a e r : ℕ) → e < 2 ^ bits → 1 % p ≡ 1 → fast_power p bits e 1 a ≡ r → power_mod a e p ≡ r
unfolding power_mod
power_mod-fast p bits a e r below one h =
    let same : 1 * a ^ e ≡ a ^ e = omega arith in
    ap (λ (n : ℕ). n % p) (sym same) ∙ sym (fast_power-is p bits e 1 a below one) ∙ h
