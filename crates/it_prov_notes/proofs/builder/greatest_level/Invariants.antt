use Rattle.std.proofs.Common.{take}
use Rattle.it_prov.specs.Best.{IsGreatest}
use Rattle.it_prov_notes.specs.inside.Judged.{HasLevel}
use Rattle.it_prov_notes.proofs.builder.greatest_level.Given as goal

-- the greatest level so far
abbrev pub invariant-loop-builder : goal.invariant-loop-builder
invariant-loop-builder l =
    IsGreatest (HasLevel (take l.builder-index l.builders) l.id) l.greatest
