-- The test of an Ed25519 signature beside its definition.
use Rattle.std.proofs.Common.{◌≡◌, ◌↔◌, ℕ, List, Option, Some, None, Bool, true, false}
use Rattle.std.proofs.Common.{IsTrue, option_map, refl, sym, unwrap_or}
use Rattle.std.proofs.lemmas.Bool.{and_from, and_parts, eq-eqb, eqb-true, lt-ltb, ltb-true}
use Rattle.std.proofs.lemmas.Slice.Eq.{bytes_eq-Decides}
use Rattle.it_ed_point.specs.Encoding.{decoded}
use Rattle.it_ed_point.specs.declared.point.Point.{Point}
use Rattle.it_ed25519.specs.Signature.{IsSignature}
use Rattle.it_public_keys.specs.Ed25519Test.{is_ed25519_signature, is_signature_under}

-- a test that is true of the key's point shows a signature
shown : (key message signature : List ℕ) (point : Point) → decoded key ≡ Some point
    → is_signature_under key message signature point ≡ true → IsSignature key message signature
unfolding is_signature_under
shown key message signature point decodes passes =
    let first = and_parts _ _ passes in
    let second = and_parts _ _ first.1 in
    record {
      point = point;
      decodes = decodes;
      long = eqb-true _ _ first.0;
      below = ltb-true _ _ second.0;
      agrees = (bytes_eq-Decides _ _).0 second.1;
    }

-- and a signature passes it
passed : (key message signature : List ℕ) → (signed : IsSignature key message signature)
    → is_signature_under key message signature signed.point ≡ true
unfolding is_signature_under
passed key message signature signed =
    and_from _ _ (eq-eqb _ _ signed.long)
    (and_from _ _ (lt-ltb _ _ signed.below) ((bytes_eq-Decides _ _).1 signed.agrees))

test_shows : (key message signature : List ℕ) (found : Option Point) → decoded key ≡ found
    → IsTrue (unwrap_or (option_map (is_signature_under key message signature) found) false)
    → IsSignature key message signature
test_shows key message signature None e passes = absurd (let bad : false ≡ true = passes in cc)
test_shows key message signature (Some point) e passes = shown key message signature point e passes

pub ed25519_decides : (key message signature : List ℕ)
    → IsTrue (is_ed25519_signature key message signature) ↔ IsSignature key message signature
ed25519_decides key message signature = (
  λ passes. test_shows key message signature (decoded key) refl passes,
  λ signed. rw signed.decodes (passed key message signature signed),
)

not_test : (b : Bool) → (b ≡ true → false ≡ true) → false ≡ b
not_test true refuses = refuses refl
not_test false refuses = refl

-- an answer that is true exactly of signatures is the test's
pub answer_is_test : (key message signature : List ℕ) (answer : Bool)
    → IsTrue answer ↔ IsSignature key message signature
    → answer ≡ is_ed25519_signature key message signature
answer_is_test key message signature true both =
    let test = ed25519_decides key message signature in
    let passes : IsTrue (is_ed25519_signature key message signature) = test.1 (both.0 refl) in
    sym passes
answer_is_test key message signature false both =
    let test = ed25519_decides key message signature in
    not_test (is_ed25519_signature key message signature) (λ passes. both.1 (test.0 passes))
