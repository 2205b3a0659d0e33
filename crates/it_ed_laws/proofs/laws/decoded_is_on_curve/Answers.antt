use Rattle.std.proofs.lemmas.Option.{IfSome_then}
use Rattle.it_ed_point.specs.Encoding.{decoded}
use Rattle.it_ed_laws.proofs.Decodings.{all_decoded}
use Rattle.it_ed_laws.proofs.laws.decoded_is_on_curve.Goals as goal

pub returns-clause-on_curve : goal.returns-clause-on_curve
returns-clause-on_curve c =
    let bytes = c.args.bytes.now in
    IfSome_then (decoded bytes) (all_decoded bytes) (λ p point. point.on)

pub returns-clause-affine : goal.returns-clause-affine
returns-clause-affine c =
    let bytes = c.args.bytes.now in
    IfSome_then (decoded bytes) (all_decoded bytes) (λ p point. point.affine)
