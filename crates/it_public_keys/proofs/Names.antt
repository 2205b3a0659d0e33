-- Names tell keys apart.
use Rattle.std.proofs.Common.{◌≡◌, ◌∙◌, ℕ, ◌+◌, ◌/◌, ◌%◌, ◌-◌, ◌≤◌, List, [], ◌∷◌, ◌++◌, arith, ap}
use Rattle.std.proofs.Common.{length, drop, refl, suc, zero}
use Rattle.std.proofs.lemmas.List.{length-append, length-drop, length-replicate}
use Rattle.it_public_keys.specs.KeyNames.{name, zeros}

-- lists of one length before others
front : (xs ys us vs : List ℕ) → length xs ≡ length ys → xs ++ us ≡ ys ++ vs → xs ≡ ys
front [] [] us vs long e = refl
front [] (y ∷ ys) us vs long e = absurd (omega arith)
front (x ∷ xs) [] us vs long e = absurd (omega arith)
front (x ∷ xs) (y ∷ ys) us vs long e =
    let head : x ≡ y = cc in
    let rest : xs ++ us ≡ ys ++ vs = cc in
    let shorter : length xs ≡ length ys = omega arith in
    let tail : xs ≡ ys = front xs ys us vs shorter rest in
    λ i. head i ∷ tail i

record Told (kind other : ℕ) (found bytes : List ℕ) : Type 0 where
  pub kind_is : kind ≡ other
  pub bytes_are : found ≡ bytes

told : (kind other high higher low lower : ℕ) (xs ys us vs : List ℕ)
    → kind ∷ high ∷ low ∷ (xs ++ us) ≡ other ∷ higher ∷ lower ∷ (ys ++ vs)
    → high ≡ length xs / 256 → low ≡ length xs % 256
    → higher ≡ length ys / 256 → lower ≡ length ys % 256 → Told kind other xs ys
told kind other high higher low lower xs ys us vs e h1 l1 h2 l2 =
    let highs : high ≡ higher = cc in
    let lows : low ≡ lower = cc in
    let rest : xs ++ us ≡ ys ++ vs = cc in
    let long : length xs ≡ length ys = omega arith in
    record { kind_is = cc; bytes_are = front xs ys us vs long rest }

pub name_tells : (kind other : ℕ) (found bytes : List ℕ) → name kind found ≡ name other bytes
    → (kind ≡ other) × (found ≡ bytes)
unfolding name
name_tells kind other found bytes e =
    let is = told kind other (length found / 256) (length bytes / 256) (length found % 256)
    (length bytes % 256) found bytes (drop (length found) zeros) (drop (length bytes) zeros) e
    refl refl refl refl in
    (is.kind_is, is.bytes_are)

-- a name as it is laid out
pub name_laid : (kind : ℕ) (bytes part rest : List ℕ) (m : ℕ) → part ≡ bytes → rest ≡ drop m zeros
    → m ≡ length bytes
    → kind ∷ length bytes / 256 ∷ length bytes % 256 ∷ (part ++ rest) ≡ name kind bytes
unfolding name
name_laid kind bytes part rest m same behind at = rw (same, behind, at) refl

-- names have 560 bytes
zeros_long : length zeros ≡ 557
unfolding zeros
zeros_long = length-replicate 557 (zero)

pub name_long : (kind : ℕ) (bytes : List ℕ) → length bytes ≤ 557 → length (name kind bytes) ≡ 560
unfolding name
name_long kind bytes few =
    let tail : length (drop (length bytes) zeros) ≡ 557 - length bytes =
    length-drop (length bytes) zeros ∙ ap (λ n. n - length bytes) zeros_long in
    let both : length (bytes ++ drop (length bytes) zeros)
    ≡ length bytes + length (drop (length bytes) zeros) =
    length-append bytes (drop (length bytes) zeros) in
    let whole : length (bytes ++ drop (length bytes) zeros) ≡ 557 = omega (arith, few, tail, both) in
    ap (λ n. suc (suc (suc n))) whole
