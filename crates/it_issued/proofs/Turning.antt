-- The certificates of an authority, each signed by the key of the next.
use Rattle.std.proofs.Common.{◌≡◌, ℕ, zero, suc, ◌<◌, ◌≤◌, ◌↔◌, false, IsTrue, List, [], ◌∷◌, length, get_or, drop, map}
use Rattle.std.proofs.Common.{All, sym, ap, subst, ◌∙◌, arith}
use Rattle.it_certificate.specs.Authority.{AreSignedInTurn, IsSignedBy}
use Rattle.it_certificate.specs.Certificate.{facts_of}
use Rattle.it_certificate.specs.declared.certificate.Certificate.{Certificate}
use Rattle.it_certificate_log.specs.Bare.{WasRead}
use Rattle.it_issued.specs.Signature.{Signs}
use Rattle.it_issued.proofs.Tests.{refused}

abbrev pub InTurn : List Certificate → Type 0
InTurn xs = AreSignedInTurn Signs (map facts_of xs)

abbrev pub SignedBy : Certificate → Certificate → Type 0
SignedBy x y = IsSignedBy Signs (facts_of x) (facts_of y)

turn : (i : ℕ) (xs : List Certificate) (d e : Certificate) → suc i < length xs
    → InTurn (drop i xs) ↔ (SignedBy (get_or xs i d) (get_or xs (suc i) e) × InTurn (drop (suc i) xs))
turn i [] d e h = absurd (omega arith)
turn zero (x ∷ []) d e h = absurd (omega arith)
turn zero (x ∷ y ∷ xs) d e h = (λ p. p, λ p. p)
turn (suc i) (x ∷ xs) d e h = turn i xs d e (omega arith)

pub last_in_turn : (i : ℕ) (xs : List Certificate) → length xs ≤ suc i → InTurn (drop i xs)
last_in_turn zero [] h = tt
last_in_turn zero (x ∷ []) h = tt
last_in_turn zero (x ∷ y ∷ xs) h = absurd (omega arith)
last_in_turn (suc i) [] h = tt
last_in_turn (suc i) (x ∷ xs) h = last_in_turn i xs (omega arith)

-- the two at their places
at_places : (i place : ℕ) (xs : List Certificate) (x y : Certificate) → place ≡ suc i → x ≡ get_or xs i x → y ≡ get_or xs place y
    → SignedBy x y ↔ SignedBy (get_or xs i x) (get_or xs (suc i) y)
at_places i place xs x y here one two =
    let second : y ≡ get_or xs (suc i) y = two ∙ ap (λ (n : ℕ). get_or xs n y) here in (
      λ by. subst (λ (z : Certificate). SignedBy z (get_or xs (suc i) y)) one (subst (λ (z : Certificate). SignedBy x z) second by),
      λ by. subst (λ (z : Certificate). SignedBy x z) (sym second) (subst (λ (z : Certificate). SignedBy z (get_or xs (suc i) y)) (sym one) by),
    )

-- one more that is signed by the next
pub turn_over : (P : Type 0) (i place after : ℕ) (xs : List Certificate) (x y : Certificate) → place ≡ suc i → after ≡ suc i
    → suc i < length xs → x ≡ get_or xs i x → y ≡ get_or xs place y → SignedBy x y → (P ↔ InTurn (drop i xs)) → P ↔ InTurn (drop after xs)
turn_over P i place after xs x y here there below one two by before =
    let turned = turn i xs x y below in
    let signed = (at_places i place xs x y here one two).0 by in
    subst (λ (n : ℕ). P ↔ InTurn (drop n xs)) (sym there) (
      λ all. (turned.0 (before.0 all)).1,
      λ rest. before.1 (turned.1 (signed, rest)),
    )

-- one that is not
pub turn_stops : (P : Type 0) (i place : ℕ) (xs : List Certificate) (x y : Certificate) → place ≡ suc i
    → suc i < length xs → x ≡ get_or xs i x → y ≡ get_or xs place y → (SignedBy x y → ⊥) → (P ↔ InTurn (drop i xs)) → IsTrue false ↔ P
turn_stops P i place xs x y here below one two none before =
    let turned = turn i xs x y below in
    refused P (λ all. none ((at_places i place xs x y here one two).1 (turned.0 (before.0 all)).0))

pub read_at : (xs : List Certificate) (i : ℕ) (x : Certificate) → All WasRead xs → i < length xs → x ≡ get_or xs i x → WasRead x
read_at xs i x all below is = subst WasRead (sym is) (all i x below)
