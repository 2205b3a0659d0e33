use Rattle.std.proofs.Common.{take}
use Rattle.it_prov.specs.inside.Judged.{HasNames}
use Rattle.it_prov.proofs.parameters.set_of.Given as goal

-- the names so far
abbrev pub invariant-loop-name : goal.invariant-loop-name
invariant-loop-name l = HasNames (take l.name-index l.names) l.set
