-- From what was computed to the verdict.
use Rattle.std.proofs.Common.{◌≡◌, ◌≢◌, ◌↔◌, IsTrue, true, false, Bool, ℕ, ◌+◌, ◌-◌, ◌*◌, ◌^◌, ◌<◌, ◌≤◌, ◌++◌, List, length, take, drop, arith, sym, ap, ◌∙◌, refl, get_or, nat_eq, length-drop}
use Rattle.std.specs.Prelude.{replicate}
use Rattle.std.specs.Cmp.Lexicographic.{pointwise}
use Rattle.std.proofs.lemmas.List.{take_all, get_or-take, length-take-le}
use Rattle.std.proofs.lemmas.Bool.Decides.{Decides-eqb}
use Rattle.std.proofs.lemmas.Slice.Eq.{slice_eq-Decides}
use Rattle.sha2.specs.Sha256.{sha256}
use Rattle.it_numbers.specs.Bytes.{big, big_bytes}
use Rattle.it_rsa.specs.Encoding.{IsOpened, IsEncoded, data_of, with_low_bits}
use Rattle.it_rsa.specs.Key.{Key}
use Rattle.it_rsa.specs.Mask.{xored, mgf1}
use Rattle.it_rsa.specs.Signature.{IsSignatureOfDigest, representative, em_length, em_bits}

get_or-take_front : (bs : List ℕ) (n k : ℕ) → k < n → get_or (take n bs) k 0 ≡ get_or bs k 0
get_or-take_front bs n k h = rw get_or-take refl

rest_is : (bs : List ℕ) (a b : ℕ) → a ≡ b → take (length bs - a) (drop a bs) ≡ drop b bs
rest_is bs a b e = rw e (take_all (length bs - b) (drop b bs) (omega (arith, length-drop b bs)))

pub opened_judged : (digest bytes hash again slice : List ℕ) (mark : ℕ) (t r : Bool) → mark ≡ length bytes - 33 → 33 ≤ length bytes → t ≡ true
    → IsTrue t ↔ ((k : ℕ) → k < length (take mark bytes) → get_or (take mark bytes) k 0 ≡ 0)
    → get_or bytes mark 0 ≡ 1
    → again ≡ sha256 (replicate 8 0 ++ digest ++ take (length bytes - (mark + 1)) (drop (mark + 1) bytes))
    → slice ≡ again → r ≡ pointwise nat_eq slice hash → IsTrue r ↔ IsOpened digest bytes hash
opened_judged digest bytes hash again slice mark t r at h is z one d sl eq =
    let n = length bytes in
    let rest : take (n - (mark + 1)) (drop (mark + 1) bytes) ≡ drop (n - 32) bytes = rest_is bytes (mark + 1) (n - 32) (omega arith) in
    let long : length (take mark bytes) ≡ mark = length-take-le mark bytes (omega arith) in
    let made : slice ≡ sha256 (replicate 8 0 ++ digest ++ drop (n - 32) bytes) = sl ∙ d ∙ ap (λ (x : List ℕ). sha256 (replicate 8 0 ++ digest ++ x)) rest in
    let decides = slice_eq-Decides Decides-eqb slice hash r eq in (
      λ yes. record {
        zeros = λ k p. let q : k < mark = omega arith in sym (get_or-take_front bytes mark k q) ∙ z.0 is k (rw long q);
        one = rw (sym at) one;
        agrees = sym made ∙ decides.0 yes;
      },
      λ o. decides.1 (made ∙ o.agrees),
    )

pub encoded_judged : (digest em db copy hash : List ℕ) (clear r : Bool) → 66 ≤ length em
    → copy ≡ take (length em - 33) em → hash ≡ take (length em - 33 + 32 - (length em - 33)) (drop (length em - 33) em)
    → db ≡ with_low_bits 7 (xored copy (mgf1 hash (length copy)))
    → get_or em (length em - 1) 0 ≡ 188 → (IsTrue clear ↔ (get_or em 0 0 < 2 ^ 7)) → clear ≡ true
    → IsTrue r ↔ IsOpened digest db hash → IsTrue r ↔ IsEncoded digest em (8 * length em - 1)
unfolding data_of
encoded_judged digest em db copy hash clear r room c h d trailer top is_clear o =
    let n = length em in
    let low : 8 - (8 * n - (8 * n - 1)) ≡ 7 = omega arith in
    let size : n - 33 + 32 - (n - 33) ≡ 32 = omega arith in
    let hash_is : hash ≡ take 32 (drop (n - 33) em) = h ∙ ap (λ (k : ℕ). take k (drop (n - 33) em)) size in
    let long : length copy ≡ n - 33 = ap length c ∙ length-take-le (n - 33) em (omega arith) in
    let data_is : db ≡ data_of em (8 * n - 1) = d ∙ rw (low, long, c, hash_is) refl in (
      λ yes. record {
        room = room;
        trailer = trailer;
        top_clear = rw low (top.0 is_clear);
        opened = rw (data_is, hash_is) at (o.0 yes);
      },
      λ e. o.1 (rw (data_is, hash_is) e.opened),
    )

pub wrong_length : (key : Key) (digest signature : List ℕ) (n : ℕ) → n ≡ length key.modulus → length signature ≢ n
    → IsTrue false ↔ IsSignatureOfDigest key digest signature
wrong_length key digest signature n e h = (λ (no : false ≡ true). cc, λ s. absurd (h (s.long ∙ sym e)))

pub not_below : (key : Key) (digest signature : List ℕ) (t : Bool) → IsTrue t ↔ (big signature < big key.modulus) → t ≡ false
    → IsTrue false ↔ IsSignatureOfDigest key digest signature
not_below key digest signature t e f = (λ (no : false ≡ true). cc, λ s. let yes : t ≡ true = e.1 s.below in cc)

pub signature_judged : (key : Key) (digest signature em : List ℕ) (t r : Bool) → 0 < length key.modulus → length signature ≡ length key.modulus
    → IsTrue t ↔ (big signature < big key.modulus) → t ≡ true
    → em ≡ big_bytes (length key.modulus) (representative key signature) → length em ≡ length key.modulus
    → IsTrue r ↔ IsEncoded digest em (8 * length em - 1) → IsTrue r ↔ IsSignatureOfDigest key digest signature
signature_judged key digest signature em t r some long below is_below is size enc =
    let k = length key.modulus in
    let em_size : em_length key ≡ k = omega arith in
    let whole : em ≡ big_bytes (em_length key) (representative key signature) = is ∙ ap (λ (n : ℕ). big_bytes n (representative key signature)) (sym em_size) in
    let same : IsTrue r ↔ IsEncoded digest (big_bytes (em_length key) (representative key signature)) (em_bits key) = rw (size, whole) at enc in (
      λ yes. record { long = long; below = below.0 is_below; encoded = same.0 yes },
      λ s. same.1 s.encoded,
    )
