-- The numbers of a key, at their places in its SubjectPublicKeyInfo.
use Rattle.std.proofs.Common.{◌≡◌, ◌∙◌, ◌+◌, ◌-◌, ◌∷◌, ◌++◌, ℕ, List, ap, arith, drop, length, sym, take}
use Rattle.std.proofs.lemmas.List.{drop-drop, take-append-le, take_all, take_rest}
use Rattle.it_rsa.specs.Info.{exponent_bytes}
use Rattle.it_rsa.specs.Key.{Key}
use Rattle.it_rsa.proofs.Infos.{AreRead, after_modulus, read_of}
use Rattle.it_rsa.proofs.Keys.{parts_of_key, same_key}
use Rattle.it_rsa_forms.specs.Info.{IsInfoOf}

-- bytes are the SubjectPublicKeyInfo of one key
pub one_key : (info : List ℕ) (key other : Key) → IsInfoOf info key → IsInfoOf info other
    → key ≡ other
one_key info key other has more =
    same_key key other has.is_key more.is_key (sym has.info_is ∙ more.info_is)

pub read : (info : List ℕ) (key : Key) → IsInfoOf info key
    → AreRead info key.modulus (exponent_bytes key.exponent)
read info key has =
    read_of info key.modulus (exponent_bytes key.exponent)
    (parts_of_key info key has.is_key has.info_is)

front : (xs ys : List ℕ) → take (length xs) (xs ++ ys) ≡ xs
front xs ys =
    take-append-le (length xs) xs ys (omega arith) ∙ take_all (length xs) xs (omega arith)

pub modulus_at : (info : List ℕ) (key : Key) (size : ℕ) → IsInfoOf info key
    → size ≡ length key.modulus → take (33 + size - 33) (drop 33 info) ≡ key.modulus
modulus_at info key size has is =
    let exponent = exponent_bytes key.exponent in
    let at : 33 + size - 33 ≡ length key.modulus = omega (arith, is) in
    ap (λ (n : ℕ). take n (drop 33 info)) at
    ∙ ap (take (length key.modulus)) (read info key has).rest
    ∙ front key.modulus (2 ∷ length exponent ∷ exponent)

exponent_at : (info : List ℕ) (key : Key) (size : ℕ) → IsInfoOf info key
    → size ≡ length key.modulus → drop (33 + size + 2) info ≡ exponent_bytes key.exponent
exponent_at info key size has is =
    sym (drop-drop 2 (33 + size) info)
    ∙ ap (drop 2) (after_modulus info key.modulus (exponent_bytes key.exponent) size
    (read info key has) is)

pub exponent_there : (info : List ℕ) (key : Key) (size : ℕ) → IsInfoOf info key
    → size ≡ length key.modulus
    → take (length info - (33 + size + 2)) (drop (33 + size + 2) info)
    ≡ exponent_bytes key.exponent
exponent_there info key size has is =
    take_rest info (33 + size + 2) ∙ exponent_at info key size has is
