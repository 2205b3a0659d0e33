-- The lines read so far have given the map, and each was at least one byte.
use Rattle.std.proofs.Common.{◌+◌, ◌≤◌, length}
use Rattle.it_digest.specs.Sums.{algorithm_of, lines_of}
use Rattle.it_digest.proofs.SumsLemmas.{HasRead}
use Rattle.it_digest.proofs.sums.read_list.Given as goal

abbrev pub invariant-loop-rest : goal.invariant-loop-rest
invariant-loop-rest l = record {
  so_far : HasRead (algorithm_of l.fn.algorithm) l.fn.bytes (lines_of l.rest) l.sums l.number;
  in_range : l.number + length l.rest ≤ length l.fn.bytes;
}

abbrev pub decreases-loop-rest : goal.decreases-loop-rest
decreases-loop-rest l = length l.rest
