use Rattle.std.proofs.Common.{◌≡◌, ◌≤◌, take}
use Rattle.it_log_entry.specs.Place.{place_of}
use Rattle.it_vouches.specs.EntryMissed.{MissesWithOne}
use Rattle.it_vouches.specs.Furthest.{IsFurthest}
use Rattle.it_vouches.specs.Logged.{VouchesBy}
use Rattle.it_vouches.proofs.Loops.{NoneIn}
use Rattle.it_vouches.proofs.entry_log.shortfall_by_logs.Given as goal

-- none of the logs so far vouches, and this is the furthest condition that the entry misses; the
-- budget is the one that was given
abbrev pub invariant-loop-log : goal.invariant-loop-log
invariant-loop-log l = record {
  none : NoneIn (VouchesBy l.question.needs_proof l.entry l.question.logged) (take l.log-index l.logs);
  furthest : IsFurthest place_of (MissesWithOne (take l.log-index l.logs) l.question.needs_proof l.entry l.question.logged)
      l.furthest;
  most : l.budget.most ≡ l.fn.budget.most;
  grows : l.fn.budget.checked ≤ l.budget.checked;
}
