-- The neutral point and the base point are on the curve, by computing.
use Rattle.std.proofs.Common.{refl, lit<}
use Rattle.it_ed_point.specs.Curve.{base, neutral}
use Rattle.it_ed_laws.specs.OnCurve.{IsOnCurve}

pub neutral_on_curve : IsOnCurve neutral
neutral_on_curve = record {
  reduced = record { x = lit< tt; y = lit< tt; z = lit< tt; t = lit< tt };
  finite = λ none. cc;
  equation = refl;
  product = refl;
}

pub base_on_curve : IsOnCurve base
base_on_curve = record {
  reduced = record { x = lit< tt; y = lit< tt; z = lit< tt; t = lit< tt };
  finite = λ none. cc;
  equation = refl;
  product = refl;
}
