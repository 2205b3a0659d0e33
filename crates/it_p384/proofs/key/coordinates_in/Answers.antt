use Rattle.std.proofs.Common.{◌≤◌, length, sym, arith}
use Rattle.std.proofs.lemmas.List.{length-take-le}
use Rattle.it_p384.proofs.Infos.{after_prefix}
use Rattle.it_p384.proofs.key.coordinates_in.Goals as goal

pub slice_bounds-ne-end : goal.slice_bounds-ne-end
slice_bounds-ne-end c = sym (length-take-le 24 c.args.info.now (let h : 24 ≤ length c.args.info.now = omega arith in h))

pub returns : goal.returns
returns c = after_prefix c.args.info.now _ _ c.ne.result c.if-info-ne120.false c.as_slice.ensures c.ne.ensures c.if-ne.false
