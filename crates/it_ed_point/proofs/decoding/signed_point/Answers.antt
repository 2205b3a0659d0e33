use Rattle.std.proofs.Common.{ap, ◌∙◌, Some}
use Rattle.it_ed_point.specs.declared.point.Point.{Point}
use Rattle.it_ed_point.proofs.Decoded.{no_signed, one_signed, affine_is}
use Rattle.it_ed_point.proofs.decoding.signed_point.Goals as goal

pub returns-then-is_odd_zero : goal.returns-then-is_odd_zero
returns-then-is_odd_zero c =
    no_signed c.args.x c.args.y c.args.sign c.is_odd_zero.result c.is_odd_zero.ensures c.if-is_odd_zero.true

pub returns : goal.returns
returns c =
    ap (λ (p : Point). Some p) (affine_is _ c.args.y _ _ _ c.signed-x.ensures c.one.ensures c.multiply-t.ensures)
    ∙ one_signed c.args.x c.args.y c.args.sign c.is_odd_zero.result c.is_odd_zero.ensures c.if-is_odd_zero.false
