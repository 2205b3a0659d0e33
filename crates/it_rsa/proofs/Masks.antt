-- Masks, block by block.
use Rattle.std.proofs.Common.{◌≡◌, ℕ, zero, suc, ◌+◌, ◌-◌, ◌*◌, ◌/◌, ◌%◌, ◌^◌, ◌<◌, ◌≤◌, List, [], ◌∷◌, ◌++◌, length, get_or, set, refl, sym, ap, ◌∙◌, arith, bit_xor, length-append, ◌≢◌}
use Rattle.std.proofs.lemmas.List.{length-take-le, get_or-append_right, get_or_append_left, get_or-take, get_or-set_other}
use Rattle.std.proofs.lemmas.Grind.{same_number_lists}
use Rattle.std.proofs.lemmas.Bool.{cases_lt}
use Rattle.std.proofs.Common.{◌⊎◌, inl, inr}
use Rattle.sha2.specs.Sha256.{sha256}
use Rattle.sha2.proofs.Facts256.{length-sha256}
use Rattle.it_numbers.specs.Bytes.{big_bytes}
use Rattle.it_rsa.specs.Mask.{mask_blocks, mgf1, xored}
use Rattle.it_rsa.specs.Encoding.{with_low_bits}

pub counter_bytes : (n : ℕ) → n < 256 → big_bytes 4 n ≡ 0 ∷ 0 ∷ 0 ∷ n ∷ []
unfolding big_bytes
counter_bytes n h =
    let a : n / 2 ^ 24 % 256 ≡ 0 = omega arith in
    let b : n / 2 ^ 16 % 256 ≡ 0 = omega arith in
    let c : n / 2 ^ 8 % 256 ≡ 0 = omega arith in
    let d : n / 1 % 256 ≡ n = omega arith in
    rw (a, b, c, d) refl

-- masks
length-xored : (xs ys : List ℕ) → length xs ≤ length ys → length (xored xs ys) ≡ length xs
unfolding xored
length-xored [] ys h = refl
length-xored (x ∷ xs) [] h = absurd (omega arith)
length-xored (x ∷ xs) (y ∷ ys) h = ap suc (length-xored xs ys (omega arith))

get_or-xored : (xs ys : List ℕ) (k : ℕ) → k < length xs → k < length ys → get_or (xored xs ys) k 0 ≡ bit_xor (get_or xs k 0) (get_or ys k 0)
unfolding xored
get_or-xored [] ys k h p = absurd (omega arith)
get_or-xored (x ∷ xs) [] k h p = absurd (omega arith)
get_or-xored (x ∷ xs) (y ∷ ys) zero h p = refl
get_or-xored (x ∷ xs) (y ∷ ys) (suc k) h p = get_or-xored xs ys k (omega arith) (omega arith)

length-blocks : (seed : List ℕ) (n : ℕ) → length (mask_blocks seed n) ≡ 32 * n
unfolding mask_blocks
length-blocks seed zero = refl
length-blocks seed (suc n) =
    length-append (mask_blocks seed n) (sha256 (seed ++ big_bytes 4 n))
    ∙ (let a : length (mask_blocks seed n) ≡ 32 * n = length-blocks seed n in
    let b : length (sha256 (seed ++ big_bytes 4 n)) ≡ 32 = length-sha256 (seed ++ big_bytes 4 n) in omega arith)

get_or-blocks : (seed : List ℕ) (n k : ℕ) → k < 32 * n → get_or (mask_blocks seed n) k 0 ≡ get_or (sha256 (seed ++ big_bytes 4 (k / 32))) (k % 32) 0
unfolding mask_blocks
get_or-blocks seed zero k h = absurd (omega arith)
get_or-blocks seed (suc n) k h =
    let long : length (mask_blocks seed n) ≡ 32 * n = length-blocks seed n in
    elim (cases_lt k (32 * n)) as (λ (s : (k < 32 * n) ⊎ (32 * n ≤ k)). get_or (mask_blocks seed n ++ sha256 (seed ++ big_bytes 4 n)) k 0 ≡ get_or (sha256 (seed ++ big_bytes 4 (k / 32))) (k % 32) 0) [
      | inl lt ↦ get_or_append_left (mask_blocks seed n) _ 0 k (omega arith) ∙ get_or-blocks seed n k lt
      | inr ge ↦
          let at : k / 32 ≡ n = omega arith in
          let to : k % 32 ≡ k - 32 * n = omega arith in
          rw (at, to) (get_or-append_right (mask_blocks seed n) _ (32 * n) k 0 long ge)
    ]

length-mgf1 : (seed : List ℕ) (n : ℕ) → length (mgf1 seed n) ≡ n
unfolding mgf1
length-mgf1 seed n = length-take-le n (mask_blocks seed ((n + 31) / 32)) (let a : length (mask_blocks seed ((n + 31) / 32)) ≡ 32 * ((n + 31) / 32) = length-blocks seed ((n + 31) / 32) in omega arith)

get_or-mgf1 : (seed : List ℕ) (n k : ℕ) → k < n → get_or (mgf1 seed n) k 0 ≡ get_or (sha256 (seed ++ big_bytes 4 (k / 32))) (k % 32) 0
unfolding mgf1
get_or-mgf1 seed n k h = rw get_or-take (get_or-blocks seed ((n + 31) / 32) k (omega arith))

pub unmasked_all : (bs old seed : List ℕ) (i : ℕ) → length bs ≡ length old → length old ≤ i
    → ((k : ℕ) → k < i → get_or bs k 0 ≡ bit_xor (get_or old k 0) (get_or (sha256 (seed ++ big_bytes 4 (k / 32))) (k % 32) 0))
    → bs ≡ xored old (mgf1 seed (length old))
unmasked_all bs old seed i e h f =
    let long : length (mgf1 seed (length old)) ≡ length old = length-mgf1 seed (length old) in
    same_number_lists bs (xored old (mgf1 seed (length old))) (e ∙ sym (length-xored old (mgf1 seed (length old)) (omega arith)))
    (λ k p. f k (omega arith)
    ∙ ap (bit_xor (get_or old k 0)) (sym (get_or-mgf1 seed (length old) k (omega arith)))
    ∙ sym (get_or-xored old (mgf1 seed (length old)) k (omega arith) (omega arith)))

pub low_bits_set : (xs : List ℕ) (n : ℕ) → 0 < length xs → set xs 0 (get_or xs 0 0 % 2 ^ n) ≡ with_low_bits n xs
unfolding with_low_bits
low_bits_set [] n h = absurd (omega arith)
low_bits_set (x ∷ xs) n h = refl

pub set_rest : (bs old : List ℕ) (i v : ℕ) → ((j : ℕ) → i ≤ j → get_or bs j 0 ≡ get_or old j 0)
    → (j : ℕ) → i + 1 ≤ j → get_or (set bs i v) j 0 ≡ get_or old j 0
set_rest bs old i v before j p = let ne : j ≢ i = omega arith in rw get_or-set_other (before j (omega arith))
