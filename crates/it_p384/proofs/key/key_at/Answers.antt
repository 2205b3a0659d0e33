use Rattle.std.proofs.Common.{arith}
use Rattle.it_p384.proofs.Infos.{not_below, not_on_curve, coordinate_bytes}
use Rattle.it_p384.proofs.Tests.{same_of}
use Rattle.it_p384.proofs.key.key_at.Goals as goal

pub returns-in_default : goal.returns-in_default
returns-in_default c = λ key good hx hy. not_below key.x c.args.x_bytes.now good.x_below hx c.in_default.ensures

pub returns-in_default-from_bytes : goal.returns-in_default-from_bytes
returns-in_default-from_bytes c = λ key good hx hy. not_below key.y c.args.y_bytes.now good.y_below hy c.in_default-from_bytes.ensures

pub returns-then-not-is_on_curve : goal.returns-then-not-is_on_curve
returns-then-not-is_on_curve c = λ key good.
    not_on_curve key _ _ c.args.x_bytes.now c.args.y_bytes.now _ c.in-Some.ensures.0 c.in-Some-from_bytes.ensures.0 c.is_on_curve.ensures
    c.if-not-is_on_curve.true good

pub returns : goal.returns
returns c = (
  record {
    x_below = c.in-Some.ensures.1;
    y_below = c.in-Some-from_bytes.ensures.1;
    on_curve = same_of _ _ _ c.is_on_curve.ensures c.if-not-is_on_curve.false;
  },
  coordinate_bytes _ c.args.x_bytes.now c.requires.x_length (λ k. let fits = c.type_inv.x_bytes k in omega arith) c.in-Some.ensures.0,
  coordinate_bytes _ c.args.y_bytes.now c.requires.y_length (λ k. let fits = c.type_inv.y_bytes k in omega arith) c.in-Some-from_bytes.ensures.0,
)
