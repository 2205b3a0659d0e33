-- The bytes of a text of hexadecimal digits, pair by pair.
use Rattle.std.proofs.Common.{◌≡◌, ℕ, ◌+◌, ◌*◌, ◌<◌, List, length, take, drop, slice_index}
use Rattle.std.proofs.Common.{Option, Some, None, Ok, Err, refl, sym, ap, arith}
use Rattle.std.specs.Result.{result_ok}
use Rattle.hex.specs.Hex.{decode_pairs, digit_or_error, hex_digit_value, pair_value, ◌>>=◌}
use Rattle.hex.specs.declared.error.FromHexError.{FromHexError}
use Rattle.hex.specs.declared.error.FromHexError.TheVariants.{InvalidHexCharacter}
use Rattle.hex.proofs.Pairs.{decode_err, prepend}

-- where a pair of digits stands matters for its error alone
pair_ok : (o p : Option ℕ) (a b i j v : ℕ)
    → result_ok ((digit_or_error a i o)
    >>= (λ h. (digit_or_error b (i + 1) p) >>= (λ l. Ok (h * 16 + l)))) ≡ Some v
    → ((digit_or_error a j o)
    >>= (λ h. (digit_or_error b (j + 1) p) >>= (λ l. Ok (h * 16 + l)))) ≡ Ok v
pair_ok (Some h) (Some l) a b i j v e = grind (arith)
pair_ok (Some h) None a b i j v e = absurd (cc)
pair_ok None p a b i j v e = absurd (cc)

pub pair_read : (a b j v : ℕ) → Some v ≡ result_ok (pair_value a b 0) → pair_value a b j ≡ Ok v
pair_read a b j v e = pair_ok (hex_digit_value a) (hex_digit_value b) a b 0 j v (sym e)

no_pair : (o p : Option ℕ) (a b i j : ℕ)
    → None ≡ result_ok ((digit_or_error a i o)
    >>= (λ h. (digit_or_error b (i + 1) p) >>= (λ l. Ok (h * 16 + l))))
    → (e : FromHexError) × (((digit_or_error a j o)
    >>= (λ h. (digit_or_error b (j + 1) p) >>= (λ l. Ok (h * 16 + l)))) ≡ Err e)
no_pair (Some h) (Some l) a b i j e = absurd (cc)
no_pair (Some h) None a b i j e = (InvalidHexCharacter b (j + 1), refl)
no_pair None p a b i j e = (InvalidHexCharacter a j, refl)

-- a pair that does not read leaves nothing
pub pair_refused : (s out : List ℕ) (i : ℕ) → 2 * i + 1 < length s
    → None ≡ result_ok (pair_value (slice_index s (2 * i)) (slice_index s (2 * i + 1)) 0)
    → decode_pairs 0 s ≡ prepend (take i out) (decode_pairs (2 * i) (drop (2 * i) s))
    → None ≡ result_ok (decode_pairs 0 s)
pair_refused s out i fits none inv =
    let a = slice_index s (2 * i) in
    let b = slice_index s (2 * i + 1) in
    let refused = no_pair (hex_digit_value a) (hex_digit_value b) a b 0 (2 * i) none in
    sym (ap result_ok (decode_err s out i refused.0 fits refused.1 inv))
