-- Numbers in bytes of one length: their order is that of the bytes.
use Rattle.std.proofs.Common.{◌≡◌, ◌∙◌, ℕ, zero, suc, ◌/◌, ◌%◌, ◌+◌, ◌*◌, ◌^◌, ◌<◌, ◌≤◌, List, [], ◌∷◌, ◌++◌, Bool}
use Rattle.std.proofs.Common.{true, false, length, get_or, nat_cmp, nat_eq, refl, sym, ap, arith, replicate, take, drop, ◌-◌}
use Rattle.std.specs.Cmp.Lexicographic.{pointwise, slice_cmp}
use Rattle.std.specs.Ordering.{ordering_then}
use Rattle.std.proofs.Common.{Less, Equal, Greater}
use Rattle.std.proofs.Math.Nat.{mul-le-mul_right}
use Rattle.std.proofs.lemmas.Cmp.{ranked, by_ranked}
use Rattle.std.proofs.lemmas.Bool.Decides.{nat_tests}
use Rattle.std.proofs.lemmas.Bool.Decides.{Decides-eqb}
use Rattle.std.proofs.lemmas.Slice.Eq.{slice_eq-Decides}
use Rattle.std.proofs.lemmas.List.{append-nil, take_all, drop_all, take-replicate, length-replicate}
use borrow.Rule.Slice.PartMut.{put_mid}
use Rattle.std.proofs.lemmas.Slice.{put_mid-paste}
use Rattle.it_numbers.specs.Bytes.{big, big_bytes}
use Rattle.it_numbers.proofs.Big.{big_below, bytes-big}

less_is : (x y : ℕ) → x < y → nat_cmp x y ≡ Less
less_is x y h = grind (arith, nat_tests)

same_is : (x y : ℕ) → x ≡ y → nat_cmp x y ≡ Equal
same_is x y h = grind (arith, nat_tests)

more_is : (x y : ℕ) → y < x → nat_cmp x y ≡ Greater
more_is x y h = grind (arith, nat_tests)

above : (x y a b p : ℕ) → a < p → x < y → x * p + a < y * p + b
above x y a b p small h =
    let most : suc x * p ≤ y * p = mul-le-mul_right p h in
    omega arith

-- one digit more
digit : (x y a b p : ℕ) → a < p → b < p
    → ordering_then (nat_cmp x y) (nat_cmp a b) ≡ nat_cmp (x * p + a) (y * p + b)
digit x y a b p small other =
    by_ranked (x < y) (x ≡ y) (y < x) (nat_cmp x y) (ranked x y (nat_cmp x y) refl)
    (λ e h. ap (λ o. ordering_then o (nat_cmp a b)) e ∙ sym (less_is _ _ (above x y a b p small h)))
    (λ e h. ap (λ o. ordering_then o (nat_cmp a b)) e ∙
    by_ranked (a < b) (a ≡ b) (b < a) (nat_cmp a b) (ranked a b (nat_cmp a b) refl)
    (λ f k. f ∙ sym (less_is (x * p + a) (y * p + b) (rw h (omega (arith, k)))))
    (λ f k. f ∙ sym (same_is (x * p + a) (y * p + b) (rw (h, k) refl)))
    (λ f k. f ∙ sym (more_is (x * p + a) (y * p + b) (rw h (omega (arith, k))))))
    (λ e h. ap (λ o. ordering_then o (nat_cmp a b)) e ∙ sym (more_is _ _ (above y x b a p other h)))

-- bytes of one length are ordered as their numbers
pub cmp_big : (xs ys : List ℕ) → length xs ≡ length ys → ((k : ℕ) → get_or xs k 0 < 256)
    → ((k : ℕ) → get_or ys k 0 < 256) → slice_cmp nat_cmp xs ys ≡ nat_cmp (big xs) (big ys)
unfolding big
cmp_big [] [] long small other = refl
cmp_big [] (y ∷ ys) long small other = absurd (omega arith)
cmp_big (x ∷ xs) [] long small other = absurd (omega arith)
cmp_big (x ∷ xs) (y ∷ ys) long small other =
    let same : length xs ≡ length ys = omega arith in
    let rest = cmp_big xs ys same (λ k. small (suc k)) (λ k. other (suc k)) in
    let below : big ys < 2 ^ (8 * length xs) = rw same (big_below ys (λ k. other (suc k))) in
    rw (rest, ← same)
    (digit x y (big xs) (big ys) (2 ^ (8 * length xs)) (big_below xs (λ k. small (suc k))) below)

same_numbers : (xs ys : List ℕ) → length xs ≡ length ys → ((k : ℕ) → get_or xs k 0 < 256)
    → ((k : ℕ) → get_or ys k 0 < 256) → big xs ≡ big ys → xs ≡ ys
same_numbers xs ys long small other e =
    sym (bytes-big xs small) ∙ ap (λ n. big_bytes n (big xs)) long ∙ ap (big_bytes (length ys)) e
    ∙ bytes-big ys other

of_tests : (a b : Bool) → (a ≡ true → b ≡ true) → (b ≡ true → a ≡ true) → a ≡ b
of_tests true b to from = sym (to refl)
of_tests false true to from = from refl
of_tests false false to from = refl

-- bytes of one length are the same where their numbers are
pub eq_big : (xs ys : List ℕ) → length xs ≡ length ys → ((k : ℕ) → get_or xs k 0 < 256)
    → ((k : ℕ) → get_or ys k 0 < 256) → pointwise nat_eq xs ys ≡ nat_eq (big xs) (big ys)
eq_big xs ys long small other =
    of_tests (pointwise nat_eq xs ys) (nat_eq (big xs) (big ys))
    (λ e. (Decides-eqb (big xs) (big ys)).1
    (ap big ((slice_eq-Decides Decides-eqb xs ys (pointwise nat_eq xs ys) refl).0 e)))
    (λ e. (slice_eq-Decides Decides-eqb xs ys (pointwise nat_eq xs ys) refl).1
    (same_numbers xs ys long small other ((Decides-eqb (big xs) (big ys)).0 e)))

zeros_first : (m : ℕ) (bytes : List ℕ) → big (replicate m 0 ++ bytes) ≡ big bytes
unfolding big
zeros_first zero bytes = refl
zeros_first (suc m) bytes =
    let rest : big (replicate m 0 ++ bytes) ≡ big bytes = zeros_first m bytes in
    omega arith

-- the number of zeros that bytes are laid over at the end
pub laid_number : (bytes array part : List ℕ) (n a k : ℕ) → length bytes ≤ n
    → array ≡ replicate n 0 → a ≡ n - length bytes → k ≡ n - a → part ≡ bytes
    → big (put_mid a k array part) ≡ big bytes
laid_number bytes array part n a k few is at all same =
    let most : a ≤ n = omega arith in
    let front : take a array ≡ replicate a 0 = ap (take a) is ∙ take-replicate a n 0 most in
    let long : length array ≡ n = ap length is ∙ length-replicate n (zero) in
    let none : drop (a + length bytes) array ≡ [] = drop_all (a + length bytes) array (omega arith) in
    let laid : put_mid a k array part
    ≡ (take a array ++ take (length bytes) bytes) ++ drop (a + length bytes) array =
    put_mid-paste a k array part bytes (length bytes) same (omega arith) refl in
    ap big (laid ∙ ap (λ l. (take a array ++ take (length bytes) bytes) ++ l) none
    ∙ append-nil (take a array ++ take (length bytes) bytes))
    ∙ rw (front, take_all (length bytes) bytes (omega arith)) (zeros_first a bytes)

-- the number of four bytes, highest first
pub word_number : (n : ℕ) → n < 2 ^ 32
    → big (n / 16777216 % 256 ∷ n / 65536 % 256 ∷ n / 256 % 256 ∷ n % 256 ∷ []) ≡ n
unfolding big
word_number n h = omega arith
