-- Bytes after their length, at the front of others.
use Rattle.std.proofs.Common.{◌≡◌, ℕ, ◌+◌, ◌-◌, ◌*◌, ◌/◌, ◌%◌, ◌<◌, ◌≤◌, List, [], ◌∷◌, ◌++◌, length, get_or, take, drop}
use Rattle.std.proofs.Common.{Option, Some, None, MatchOption, sym, ap, ◌∙◌, arith}
use Rattle.it_der.proofs.Reading.{same_front, rest_from}
use Rattle.it_certificate_log.specs.Counted.{counted}
use Rattle.it_certificate_log.specs.declared.counted.Front.{Front}
use Rattle.it_certificate_log.specs.inside.Begins.{BeginsCounted}

-- bytes begin with such a content in at most one way
pub one_counted : (bytes content content' rest rest' : List ℕ) → BeginsCounted bytes content rest → BeginsCounted bytes content' rest'
    → (content ≡ content') × (rest ≡ rest')
one_counted bytes content content' rest rest' one two =
    let both : (length content / 256) ∷ (length content % 256) ∷ (content ++ rest)
    ≡ (length content' / 256) ∷ (length content' % 256) ∷ (content' ++ rest') = sym one.written ∙ two.written in
    let high : length content / 256 ≡ length content' / 256 = cc in
    let low : length content % 256 ≡ length content' % 256 = cc in
    let tails : content ++ rest ≡ content' ++ rest' = cc in
    same_front content content' rest rest' (omega arith) tails

counted_is : (bytes front rest : List ℕ) → 2 ≤ length bytes → get_or bytes 1 0 < 256
    → length front ≡ 256 * get_or bytes 0 0 + get_or bytes 1 0 → drop 2 bytes ≡ front ++ rest → bytes ≡ counted front ++ rest
counted_is [] front rest long low size tail = absurd (omega arith)
counted_is (a ∷ []) front rest long low size tail = absurd (omega arith)
counted_is (a ∷ b ∷ xs) front rest long low size tail =
    let high : length front / 256 ≡ a = omega arith in
    let least : length front % 256 ≡ b = omega arith in
    rw (high, least) (ap (λ (l : List ℕ). a ∷ b ∷ l) tail)

-- what is read after two bytes
pub counted_found : (bytes : List ℕ) (size : ℕ) (r : Option Front) → 2 ≤ length bytes → get_or bytes 0 0 < 256 → get_or bytes 1 0 < 256
    → size ≡ 256 * get_or bytes 0 0 + get_or bytes 1 0
    → MatchOption r ((front rest : List ℕ) → length front ≡ size → take (length bytes - 2) (drop 2 bytes) ≡ front ++ rest → ⊥)
    (λ f. (length f.bytes.now ≡ size) × (take (length bytes - 2) (drop 2 bytes) ≡ f.bytes.now ++ f.rest.now))
    → MatchOption r ((content rest : List ℕ) → BeginsCounted bytes content rest → ⊥) (λ f. BeginsCounted bytes f.bytes.now f.rest.now)
counted_found bytes size None long high low is none = λ content rest begins.
    let e0 = ap (λ (l : List ℕ). get_or l 0 0) begins.written in
    let e1 = ap (λ (l : List ℕ). get_or l 1 0) begins.written in
    none content rest (omega arith) (rest_from bytes 2 ∙ ap (λ (l : List ℕ). drop 2 l) begins.written)
counted_found bytes size (Some f) long high low is found = record {
  short = let count = found.0 in omega arith;
  written = counted_is bytes f.bytes.now f.rest.now long low (found.0 ∙ is) (sym (rest_from bytes 2) ∙ found.1);
}
