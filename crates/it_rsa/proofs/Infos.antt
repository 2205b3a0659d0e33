-- A SubjectPublicKeyInfo, byte by byte.
use Rattle.std.proofs.Common.{◌≡◌, Bool, true, false, not, nat_eq, ℕ, ◌+◌, ◌-◌, ◌*◌, ◌/◌, ◌≤◌, List, [], ◌∷◌, ◌++◌, length, take, drop, arith, sym, ap, ◌∙◌, refl, get_or, length-append, length-drop}
use Rattle.std.specs.Cmp.Lexicographic.{pointwise}
use Rattle.std.proofs.lemmas.Bool.Decides.{Decides-eqb}
use Rattle.std.proofs.lemmas.List.{take_all, drop_all, take-append-le, drop-append-le, take-append-drop, drop-drop, length-take-le, take_rest}
use Rattle.std.proofs.lemmas.Slice.Eq.{slice_eq-Decides}
use Rattle.it_numbers.specs.Bytes.{big_bytes}
use Rattle.it_rsa.specs.Info.{long_form, rsa_encryption, key_sequence, info_with}
use Rattle.it_rsa.specs.inside.Parts.{AreParts, info_head, high, low}

two_bytes : (n : ℕ) → big_bytes 2 n ≡ high n ∷ low n ∷ []
unfolding big_bytes
two_bytes n = let one : n / 1 ≡ n = omega arith in rw one refl

long_is : (tag : ℕ) (contents : List ℕ) (n : ℕ) → length contents ≡ n → long_form tag contents ≡ tag ∷ 130 ∷ high n ∷ low n ∷ contents
long_is tag contents n e = rw (e, two_bytes n) refl

-- what stands after the head
length-numbers : (modulus exponent : List ℕ) → length (modulus ++ 2 ∷ length exponent ∷ exponent) ≡ length modulus + length exponent + 2
length-numbers modulus exponent =
    let both : length (modulus ++ 2 ∷ length exponent ∷ exponent) ≡ length modulus + length (2 ∷ length exponent ∷ exponent) = length-append modulus (2 ∷ length exponent ∷ exponent) in
    omega arith

pub laid : (modulus exponent : List ℕ)
    → info_with modulus exponent ≡ info_head (length modulus) (length exponent) ++ (modulus ++ 2 ∷ length exponent ∷ exponent)
unfolding info_with
laid modulus exponent =
    let k = length modulus in
    let m = length exponent in
    let tail = modulus ++ 2 ∷ m ∷ exponent in
    let tail_long : length tail ≡ k + m + 2 = length-numbers modulus exponent in
    let first = 2 ∷ 130 ∷ high (k + 1) ∷ low (k + 1) ∷ 0 ∷ tail in
    let integers : long_form 2 (0 ∷ modulus) ++ (2 ∷ m ∷ exponent) ≡ first =
    ap (λ (s : List ℕ). s ++ (2 ∷ m ∷ exponent)) (long_is 2 (0 ∷ modulus) (k + 1) (omega arith)) in
    let second = 48 ∷ 130 ∷ high (k + m + 7) ∷ low (k + m + 7) ∷ first in
    let sequence : key_sequence modulus exponent ≡ second =
    ap (long_form 48) integers ∙ long_is 48 first (k + m + 7) (omega arith) in
    let third = 3 ∷ 130 ∷ high (k + m + 12) ∷ low (k + m + 12) ∷ 0 ∷ second in
    let bits : long_form 3 (0 ∷ key_sequence modulus exponent) ≡ third =
    ap (λ (s : List ℕ). long_form 3 (0 ∷ s)) sequence ∙ long_is 3 (0 ∷ second) (k + m + 12) (omega arith) in
    ap (λ (s : List ℕ). long_form 48 (rsa_encryption ++ s)) bits ∙ long_is 48 (rsa_encryption ++ third) (k + m + 31) (omega arith)

-- what the bytes of a key say of its parts
pub record AreRead (info modulus exponent : List ℕ) : Type 0 where
  pub size : length info ≡ 35 + length modulus + length exponent
  pub long : 256 * get_or info 30 0 + get_or info 31 0 ≡ length modulus + 1
  pub front : take 33 info ≡ info_head (length modulus) (length exponent)
  pub rest : drop 33 info ≡ modulus ++ 2 ∷ length exponent ∷ exponent

pub read_of : (info modulus exponent : List ℕ) → AreParts info modulus exponent → AreRead info modulus exponent
read_of info modulus exponent parts =
    let k = length modulus in
    let m = length exponent in
    let tail = modulus ++ 2 ∷ m ∷ exponent in
    let tail_long : length tail ≡ k + m + 2 = length-numbers modulus exponent in
    let whole : info ≡ info_head k m ++ tail = parts.encoded ∙ laid modulus exponent in
    let most : k ≤ 512 = parts.most in
    rw whole (record {
      size = omega arith;
      long = let exact : 256 * high (k + 1) + low (k + 1) ≡ k + 1 = omega arith in exact;
      front = refl;
      rest = refl;
    })

front_of : (xs ys : List ℕ) → take (length xs) (xs ++ ys) ≡ xs
front_of xs ys = take-append-le (length xs) xs ys (omega arith) ∙ take_all (length xs) xs (omega arith)

rest_of : (xs ys : List ℕ) → drop (length xs) (xs ++ ys) ≡ ys
rest_of xs ys = drop-append-le (length xs) xs ys (omega arith) ∙ ap (λ (l : List ℕ). l ++ ys) (drop_all (length xs) xs (omega arith))

pub after_modulus : (info modulus exponent : List ℕ) (size : ℕ) → AreRead info modulus exponent → size ≡ length modulus
    → drop (33 + size) info ≡ 2 ∷ length exponent ∷ exponent
after_modulus info modulus exponent size r e =
    sym (drop-drop size 33 info) ∙ ap (drop size) r.rest ∙ rw e (rest_of modulus (2 ∷ length exponent ∷ exponent))

not_true : (b t : Bool) → t ≡ not b → t ≡ true → b ≡ true → ⊥
not_true true true e h k = let no : true ≡ false = e in cc
not_true true false e h k = let no : false ≡ true = h in cc
not_true false t e h k = let no : false ≡ true = k in cc

pub not_false : (b t : Bool) → t ≡ not b → t ≡ false → b ≡ true
not_false true t e h = refl
not_false false t e h = let no : false ≡ true = sym h ∙ e in cc

-- the head is that of the sizes that were read
pub other_head : (info modulus exponent slice : List ℕ) (size count : ℕ) (t : Bool) → AreRead info modulus exponent → size ≡ length modulus → count ≡ length exponent
    → slice ≡ info_head size count → t ≡ not (pointwise nat_eq (take 33 info) slice) → t ≡ true → ⊥
other_head info modulus exponent slice size count t r e f h test is =
    let same : take 33 info ≡ slice = r.front ∙ sym (h ∙ rw (e, f) refl) in
    not_true (pointwise nat_eq (take 33 info) slice) t test is ((slice_eq-Decides Decides-eqb (take 33 info) slice (pointwise nat_eq (take 33 info) slice) refl).1 same)

pub parts_judged : (info exponent slice : List ℕ) (size count : ℕ) (t : Bool) → 33 + size + 3 ≤ length info → 256 ≤ size → size ≤ 512
    → count ≡ length info - 33 - size - 2 → count ≤ 4 → slice ≡ info_head size count
    → t ≡ not (pointwise nat_eq (take 33 info) slice) → t ≡ false → length exponent ≡ count
    → take (length info - (33 + size)) (drop (33 + size) info) ≡ 2 ∷ count ∷ exponent
    → AreParts info (take (33 + size - 33) (drop 33 info)) exponent
parts_judged info exponent slice size count t room least most counted short h test is long rest =
    let at : 33 + size - 33 ≡ size = omega arith in
    let modulus = take size (drop 33 info) in
    let after : length (drop 33 info) ≡ length info - 33 = length-drop 33 info in
    let modulus_long : length modulus ≡ size = length-take-le size (drop 33 info) (omega arith) in
    let same : take 33 info ≡ info_head size count =
    (slice_eq-Decides Decides-eqb (take 33 info) slice (pointwise nat_eq (take 33 info) slice) refl).0 (not_false (pointwise nat_eq (take 33 info) slice) t test is) ∙ h in
    let last : drop size (drop 33 info) ≡ 2 ∷ count ∷ exponent = drop-drop size 33 info ∙ sym (take_rest info (33 + size)) ∙ rest in
    let middle : drop 33 info ≡ modulus ++ 2 ∷ count ∷ exponent = sym (take-append-drop size (drop 33 info)) ∙ ap (λ (l : List ℕ). modulus ++ l) last in
    let whole : info ≡ info_head size count ++ (modulus ++ 2 ∷ count ∷ exponent) =
    sym (take-append-drop 33 info) ∙ ap (λ (l : List ℕ). l ++ drop 33 info) same ∙ ap (λ (l : List ℕ). info_head size count ++ l) middle in
    let shape : info_with modulus exponent ≡ info_head size count ++ (modulus ++ 2 ∷ count ∷ exponent) = laid modulus exponent ∙ rw (modulus_long, long) refl in
    rw at (record {
      least = omega arith;
      most = omega arith;
      some = omega arith;
      short = omega arith;
      encoded = whole ∙ sym shape;
    })

-- the parts are told by the bytes
pub same_parts : (info modulus exponent modulus' exponent' : List ℕ) → AreRead info modulus exponent → AreRead info modulus' exponent'
    → (modulus ≡ modulus') × (exponent ≡ exponent')
same_parts info modulus exponent modulus' exponent' r r' =
    let first = r.long in
    let second = r'.long in
    let sizes : length modulus ≡ length modulus' = omega arith in
    let tails : modulus ++ 2 ∷ length exponent ∷ exponent ≡ modulus' ++ 2 ∷ length exponent' ∷ exponent' = sym r.rest ∙ r'.rest in
    let ends : 2 ∷ length exponent ∷ exponent ≡ 2 ∷ length exponent' ∷ exponent' =
    sym (after_modulus info modulus exponent (length modulus) r refl) ∙ after_modulus info modulus' exponent' (length modulus) r' sizes in (
      sym (front_of modulus (2 ∷ length exponent ∷ exponent)) ∙ ap (take (length modulus)) tails ∙ rw sizes (front_of modulus' (2 ∷ length exponent' ∷ exponent')),
      ap (drop 2) ends,
    )
