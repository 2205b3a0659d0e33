-- The lines so far were judged, and each was at least one byte; what is known is right; the budget is
-- the one that was given.
use Rattle.std.proofs.Common.{◌≡◌, ◌≤◌, length}
use Rattle.it_vouched.specs.inside.KnownLines.{AreRight}
use Rattle.it_vouched.proofs.Judging.{HasJudged}
use Rattle.it_vouched.proofs.judged_lines.judging_of.Given as goal

abbrev pub invariant-loop-rest : goal.invariant-loop-rest
invariant-loop-rest l = record {
  judged : HasJudged l.fn.trust l.fn.provenance l.rest l.number l.all.items l.silent.items;
  known : AreRight l.fn.trust l.known;
  most : l.budget.most ≡ l.fn.budget.most;
  grows : l.fn.budget.checked ≤ l.budget.checked;
}

abbrev pub decreases-loop-rest : goal.decreases-loop-rest
decreases-loop-rest l = length l.rest
