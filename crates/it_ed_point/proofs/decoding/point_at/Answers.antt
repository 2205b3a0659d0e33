use Rattle.std.proofs.Common.{ap, sym, ◌∙◌, ℕ}
use Rattle.std.specs.Option.{option_and_then}
use Rattle.it_ed_point.specs.Encoding.{signed_point}
use Rattle.it_ed_point.proofs.Decoded.{point_by}
use Rattle.it_ed_point.proofs.decoding.point_at.Goals as goal

pub returns-in-None : goal.returns-in-None
returns-in-None c =
    ap (option_and_then (λ (x : ℕ). signed_point x c.args.y c.args.sign)) (sym c.in-None.is)
    ∙ point_by c.args.y c.args.sign _ _ _ _ _ _ _ _ c.multiply-square.ensures c.one.ensures c.subtract-u.ensures
    c.curve_constant.ensures c.multiply.ensures c.one-2.ensures c.add-v.ensures c.root_of_ratio.ensures

pub returns-in-Some : goal.returns-in-Some
returns-in-Some c =
    c.signed_point.ensures
    ∙ ap (option_and_then (λ (x : ℕ). signed_point x c.args.y c.args.sign)) (sym c.in-Some.is)
    ∙ point_by c.args.y c.args.sign _ _ _ _ _ _ _ _ c.multiply-square.ensures c.one.ensures c.subtract-u.ensures
    c.curve_constant.ensures c.multiply.ensures c.one-2.ensures c.add-v.ensures c.root_of_ratio.ensures
