-- Numbers as texts.
use Rattle.std.proofs.Common.{◌≡◌, ℕ, ◌<◌, List, Result, Ok, Err, Bool, IsTrue, decimal, arith, ap, subst, sym, ◌∙◌, ◌↔◌, ◌^◌}
use Rattle.std.specs.Str.{IsUtf8}
use Rattle.std.specs.Str.Parse.{ParsesUnsigned}
use Rattle.std.proofs.lemmas.Fmt.{IsAscii-decimal, parse-decimal}
use Rattle.std.proofs.lemmas.Str.{IsUtf8-from_ascii}
use Rattle.it_log_entry.specs.CheckpointMisses.{IsSize}
use Rattle.it_log_entry.specs.Number.{IsNumberText}

-- a text that is a number is parsed as it
parsed : {E : Type 0} (text : List ℕ) (n : ℕ) (r : Result ℕ E) → ParsesUnsigned 64 10 text r
    → IsNumberText text n → r ≡ Ok n
parsed text n r h is =
    let small = is.small in
    parse-decimal 64 n text r (omega arith) (omega arith) is.digits_are h

pub not_parsed : {E : Type 0} (text : List ℕ) (n : ℕ) (r : Result ℕ E) (e : E)
    → ParsesUnsigned 64 10 text r → r ≡ Err e → ¬ IsNumberText text n
not_parsed text n r e h bad is = let good : r ≡ Ok n = parsed text n r h is in cc

pub parsed_is : {E : Type 0} (text : List ℕ) (n m : ℕ) (r : Result ℕ E)
    → ParsesUnsigned 64 10 text r → r ≡ Ok m → IsNumberText text n → m ≡ n
parsed_is text n m r h good is = let other : r ≡ Ok n = parsed text n r h is in cc

pub too_great : {E : Type 0} (text : List ℕ) (n m : ℕ) (r : Result ℕ E)
    → ParsesUnsigned 64 10 text r → r ≡ Ok m → 9_007_199_254_740_991 < m → ¬ IsNumberText text n
too_great text n m r h good above is =
    let same = parsed_is text n m r h good is in
    let small = is.small in
    omega arith

pub not_written : {E : Type 0} (text : List ℕ) (n m : ℕ) (r : Result ℕ E)
    → ParsesUnsigned 64 10 text r → r ≡ Ok m → ¬ (text ≡ decimal m) → ¬ IsNumberText text n
not_written text n m r h good other is =
    let same : m ≡ n = parsed_is text n m r h good is in
    other (rw same is.digits_are)

-- a size is a text, and is parsed as it
pub size_is_utf8 : (text : List ℕ) (n : ℕ) → IsSize text n → IsUtf8 text
size_is_utf8 text n is =
    subst IsUtf8 (sym is.digits_are) (IsUtf8-from_ascii (decimal n) (IsAscii-decimal n is.small))

size_parsed : {E : Type 0} (text : List ℕ) (n : ℕ) (r : Result ℕ E) → ParsesUnsigned 64 10 text r
    → IsSize text n → r ≡ Ok n
size_parsed text n r h is =
    let small = is.small in
    parse-decimal 64 n text r (omega arith) (omega arith) is.digits_are h

pub no_size : {E : Type 0} (text : List ℕ) (r : Result ℕ E) (e : E) → ParsesUnsigned 64 10 text r
    → r ≡ Err e → ¬ ((n : ℕ) × IsSize text n)
no_size text r e h bad is = let good : r ≡ Ok is.0 = size_parsed text is.0 r h is.1 in cc

pub written_size : {E : Type 0} (text : List ℕ) (m : ℕ) (r : Result ℕ E) (b : Bool) → m < 2 ^ 64
    → ParsesUnsigned 64 10 text r → r ≡ Ok m → IsTrue b ↔ (text ≡ decimal m)
    → IsTrue b ↔ ((n : ℕ) × IsSize text n)
written_size text m r b small h good test = (
  λ passes. (m, record { digits_are = test.0 passes; small = small }),
  λ is.
      let other : r ≡ Ok is.0 = size_parsed text is.0 r h is.1 in
      let same : m ≡ is.0 = cc in
      test.1 (is.1.digits_are ∙ ap decimal (sym same)),
)
