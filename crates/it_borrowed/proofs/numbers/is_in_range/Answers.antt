use Rattle.std.proofs.Common.{◌≡◌, drop, true, false, is_some, sym, ap, ◌∙◌, arith, take_all}
use Rattle.std.proofs.Common.{length-drop}
use Rattle.fast_float.specs.Text.{scan}
use Rattle.serde_json.specs.Read.{number_of, number_from}
use Rattle.it_borrowed.proofs.Numerals.{after_minus, from_front}
use Rattle.it_borrowed.proofs.numbers.is_in_range.Goals as goal

pub returns-then-has_minus : goal.returns-then-has_minus
returns-then-has_minus c =
    let s = c.as_bytes-bytes.result.now in
    let parts : c.scan.result ≡ scan (drop 1 s) = c.scan.ensures.parts
    ∙ ap scan (take_all _ (drop 1 s) (omega (arith, length-drop 1 s))) in
    c.is_negative_in_range.ensures ∙ ap (λ p. is_some (number_from true p)) parts
    ∙ ap is_some (after_minus s (sym c.if-has_minus.ensures.value))
    ∙ ap (λ s. is_some (number_of s)) c.as_bytes-bytes.ensures.value

pub returns-else-has_minus : goal.returns-else-has_minus
returns-else-has_minus c =
    let s = c.as_bytes-bytes.result.now in
    c.is_positive_in_range.ensures
    ∙ ap (λ p. is_some (number_from false p)) c.scan-else-has_minus.ensures.parts
    ∙ ap is_some (from_front s (sym c.if-has_minus.ensures.value))
    ∙ ap (λ s. is_some (number_of s)) c.as_bytes-bytes.ensures.value
