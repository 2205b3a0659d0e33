use Rattle.it_ed_point.specs.Encoding.{encoding_of}
use Rattle.it_ed_point.proofs.point.Point.encode.Goals as goal

pub returns : goal.returns
unfolding encoding_of
returns c = cc
