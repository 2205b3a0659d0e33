use Rattle.std.proofs.Common.{◌≡◌, Option, drop, true, false, sym, ap, ◌∙◌, arith, take_all}
use Rattle.std.proofs.Common.{length-drop}
use Rattle.std.specs.Prelude.{unwrap_or}
use Rattle.fast_float.specs.Text.{scan}
use Rattle.serde_json.specs.Data.{Num}
use Rattle.serde_json.specs.Read.{number_of}
use Rattle.it_borrowed.specs.Tree.{no_number}
use Rattle.it_borrowed.specs.declared.whole.Whole.{Whole}
use Rattle.it_borrowed.specs.inside.Whole.{whole_from, whole_in}
use Rattle.it_borrowed.proofs.Numerals.{after_minus, from_front}
use Rattle.it_borrowed.proofs.whole.whole_of.Goals as goal

abbrev read : Option Num → Whole
read found = whole_in (unwrap_or found no_number)

pub returns-then-has_minus : goal.returns-then-has_minus
returns-then-has_minus c =
    let s = c.as_bytes-bytes.result.now in
    let parts : c.scan.result ≡ scan (drop 1 s) = c.scan.ensures.parts
    ∙ ap scan (take_all _ (drop 1 s) (omega (arith, length-drop 1 s))) in
    c.negative_from.ensures ∙ ap (whole_from true) parts
    ∙ ap read (after_minus s (sym c.if-has_minus.ensures.value))
    ∙ ap (λ s. read (number_of s)) c.as_bytes-bytes.ensures.value

pub returns-else-has_minus : goal.returns-else-has_minus
returns-else-has_minus c =
    let s = c.as_bytes-bytes.result.now in
    c.unsigned_from.ensures ∙ ap (whole_from false) c.scan-else-has_minus.ensures.parts
    ∙ ap read (from_front s (sym c.if-has_minus.ensures.value))
    ∙ ap (λ s. read (number_of s)) c.as_bytes-bytes.ensures.value
