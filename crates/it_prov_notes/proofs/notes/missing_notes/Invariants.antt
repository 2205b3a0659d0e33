use Rattle.std.proofs.Common.{◌+◌, ◌≤◌, All, length}
use Rattle.it_digest.specs.Sums.{lines_of}
use Rattle.it_prov.specs.ProvenanceLines.{AreReadFrom}
use Rattle.it_prov_notes.specs.ProvenanceNotes.{Holds}
use Rattle.it_prov_notes.proofs.Following.{Follows}
use Rattle.it_prov_notes.proofs.notes.missing_notes.Given as goal

-- the notes so far are true, and the rest, with the envelopes that are left, follows so many lines
abbrev pub invariant-loop-rest : goal.invariant-loop-rest
invariant-loop-rest g l = record {
  are_true : All (Holds (g.C.Checks.panel l.checks)
      l.delivery.expectation.now l.delivery.digests l.delivery.provenance.now)
      l.notes.items;
  left : AreReadFrom (l.number + 1) (lines_of l.rest) l.left.envelopes.now l.left.places.now;
  so_far : Follows l.delivery.provenance.now l.number l.rest;
  in_range : l.number + length l.rest ≤ length l.delivery.provenance.now;
}

abbrev pub decreases-loop-rest : goal.decreases-loop-rest
decreases-loop-rest g l = length l.rest
