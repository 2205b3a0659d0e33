-- From what was computed to the verdict.
use Rattle.std.proofs.Common.{◌≡◌, ℕ, ◌<◌, ◌↔◌, IsTrue, Bool, true, false, nat_lt, nat_eq, Option, Some, None, if◌then◌else◌, List, length, take, drop, refl, sym, ap, ◌∙◌, arith}
use Rattle.std.specs.Cmp.Lexicographic.{pointwise}
use Rattle.std.proofs.lemmas.Bool.Decides.{nat_tests, Decides-eqb}
use Rattle.std.proofs.lemmas.Slice.Eq.{slice_eq-Decides}
use Rattle.std.proofs.lemmas.Option.{same_Some}
use Rattle.it_numbers.specs.Bytes.{little}
use Rattle.it_numbers.specs.Modular.{number_below}
use Rattle.it_ed_scalar.specs.Order.{order}
use Rattle.it_ed_point.specs.declared.point.Point.{Point}
use Rattle.it_ed_point.specs.Encoding.{decoded, encoding_of}
use Rattle.it_ed25519.specs.PublicKey.{IsPublicKey}
use Rattle.it_ed25519.specs.Signature.{challenge_of, combination_of, IsSignature}

under : (n limit : ℕ) → nat_lt n limit ≡ true → n < limit
under n limit e = grind (arith, nat_tests)

not_under : (n limit : ℕ) → nat_lt n limit ≡ false → n < limit → false ≡ true
not_under n limit e h = grind (arith, nat_tests)

-- what a number below a limit is
some_below : (n limit m : ℕ) (t : Bool) → nat_lt n limit ≡ t → (if t then Some n else None) ≡ Some m → (n ≡ m) × (n < limit)
some_below n limit m true e h = (same_Some n m h, under n limit e)
some_below n limit m false e h = absurd (cc)

none_below : (n limit : ℕ) (t : Bool) → nat_lt n limit ≡ t → (if t then Some n else None) ≡ None → n < limit → false ≡ true
none_below n limit true e h k = absurd (cc)
none_below n limit false e h k = not_under n limit e k

pub refused : (key message signature s : List ℕ) (o : Option ℕ) → s ≡ drop 32 signature → o ≡ number_below order (little s) → o ≡ None
    → IsTrue false ↔ IsSignature key message signature
refused key message signature s o e f h = (
  λ (no : false ≡ true). cc,
  λ signed. none_below (little s) order (nat_lt (little s) order) refl (sym f ∙ h) (rw e signed.below),
)

pub judged : (key message signature r s bytes slice : List ℕ) (o : Option ℕ) (n k : ℕ) (t : Bool) → IsPublicKey key
    → length signature ≡ 64 → r ≡ take 32 signature → s ≡ drop 32 signature
    → o ≡ number_below order (little s) → o ≡ Some n → k ≡ challenge_of r key message
    → ((a : Point) → decoded key ≡ Some a → bytes ≡ encoding_of (combination_of a n k))
    → slice ≡ bytes → t ≡ pointwise nat_eq slice r → IsTrue t ↔ IsSignature key message signature
judged key message signature r s bytes slice o n k t is long er es f h c made sl eq =
    let below = some_below (little s) order n (nat_lt (little s) order) refl (sym f ∙ h) in
    let number : n ≡ little (drop 32 signature) = sym below.0 ∙ ap little es in
    let tied : k ≡ challenge_of (take 32 signature) key message = c ∙ ap (λ (x : List ℕ). challenge_of x key message) er in
    let whole : (a : Point) → decoded key ≡ Some a
    → slice ≡ encoding_of (combination_of a (little (drop 32 signature)) (challenge_of (take 32 signature) key message)) =
    λ a d. sl ∙ made a d ∙ ap (λ (x : ℕ). encoding_of (combination_of a x k)) number
    ∙ ap (λ (x : ℕ). encoding_of (combination_of a (little (drop 32 signature)) x)) tied in
    let decides = slice_eq-Decides Decides-eqb slice r t eq in (
      λ yes. record {
        point = is.point;
        decodes = is.decodes;
        long = long;
        below = rw (← es) below.1;
        agrees = sym (whole is.point is.decodes) ∙ decides.0 yes ∙ er;
      },
      λ signed. decides.1 (whole signed.point signed.decodes ∙ signed.agrees ∙ sym er),
    )
