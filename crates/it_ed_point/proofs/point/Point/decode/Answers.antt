use Rattle.std.proofs.Common.{ap, sym, ◌∙◌, ℕ, ◌/◌, ◌%◌, ◌^◌}
use Rattle.std.specs.Option.{option_and_then}
use Rattle.it_ed_point.specs.Encoding.{point_at}
use Rattle.it_numbers.specs.Bytes.{little}
use Rattle.it_ed_point.proofs.Decoded.{decoded_by}
use Rattle.it_ed_point.proofs.point.Point.decode.Goals as goal

pub returns-in-None : goal.returns-in-None
returns-in-None c =
    let bs = c.args.bytes.now in
    ap (option_and_then (λ (y : ℕ). point_at y (little bs / 2 ^ 255 % 2))) (sym c.in-None.is)
    ∙ decoded_by bs c.from_bytes.result c.from_bytes.ensures

pub returns-in-Some : goal.returns-in-Some
returns-in-Some c =
    let bs = c.args.bytes.now in
    c.point_at.ensures ∙ ap (point_at c.in-Some.y) c.top_bit.ensures
    ∙ ap (option_and_then (λ (y : ℕ). point_at y (little bs / 2 ^ 255 % 2))) (sym c.in-Some.is)
    ∙ decoded_by bs c.from_bytes.result c.from_bytes.ensures
