use Rattle.std.proofs.Common.{take}
use Rattle.it_prov.specs.Best.{IsGreatest}
use Rattle.it_prov.specs.inside.Judged.{IsBuiltBy, OfSome}
use Rattle.it_file_evidence.proofs.levels.greatest_level.Given as goal

-- the greatest level of the builders so far
abbrev pub invariant-loop-builder : goal.invariant-loop-builder
invariant-loop-builder g l =
    IsGreatest (OfSome (IsBuiltBy (g.C.Checks.panel l.checks) l.envelope l.id)
    (take l.builder-index l.builders)) l.best
