use Rattle.std.proofs.Common.{◌+◌, ◌≤◌, length}
use Rattle.it_prov.proofs.ReadLines.{HasRead}
use Rattle.it_prov.proofs.provenance_lines.ProvenanceLines.read.Given as goal

-- the lines so far were read, and each was at least one byte
abbrev pub invariant-loop-rest : goal.invariant-loop-rest
invariant-loop-rest l = record {
  so_far : HasRead l.provenance l.rest l.place l.envelopes.items l.places.items;
  in_range : l.place + length l.rest ≤ length l.fn.provenance;
}

abbrev pub decreases-loop-rest : goal.decreases-loop-rest
decreases-loop-rest l = length l.rest
