use Rattle.std.proofs.Common.{take}
use Rattle.it_prov.specs.Index.{IsIndex}
use Rattle.it_prov.proofs.index.Index.of.Given as goal

-- the index of what the envelopes so far hold
abbrev pub invariant-loop-place : goal.invariant-loop-place
invariant-loop-place l = IsIndex (take l.place l.held) l.index
