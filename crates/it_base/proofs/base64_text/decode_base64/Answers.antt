use Rattle.it_base.specs.Base64Text.{base64_decoded}
use Rattle.it_base.proofs.base64_text.decode_base64.Goals as goal

pub returns-in-Some : goal.returns-in-Some
unfolding base64_decoded
returns-in-Some c =
    rw (rw c.in-Some.is at c.in_ok-bytes.ensures.unmarked)
    (rw c.in-Some.is at c.in_ok-bytes.ensures.bytes)

pub returns-then-has_url_mark : goal.returns-then-has_url_mark
unfolding base64_decoded
returns-then-has_url_mark c = rw (← c.if-has_url_mark.ensures) c.decode_url_safe.ensures

pub returns-else-has_url_mark : goal.returns-else-has_url_mark
unfolding base64_decoded
returns-else-has_url_mark c =
    rw (← c.if-has_url_mark.ensures) (rw c.in_default.is at c.in_ok-bytes.ensures.bytes)
