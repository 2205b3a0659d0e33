use Rattle.std.proofs.Common.{take}
use Rattle.std.specs.List.{AllZip}
use Rattle.it_disk.specs.Reading.{HoldsRing}
use Rattle.it_program.proofs.given.read_rings.Given as goal

abbrev pub invariant-loop-path : goal.invariant-loop-path
invariant-loop-path g l = AllZip (HoldsRing (g.R.Disk.holdings l.rt)) (take l.path-index l.paths)
    l.rings.items
