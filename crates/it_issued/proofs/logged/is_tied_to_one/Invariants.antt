use Rattle.std.proofs.Common.{◌≡◌, ◌≤◌, take}
use Rattle.std.specs.List.{All}
use Rattle.it_certificate_log.specs.Timestamp.{stamp_of}
use Rattle.it_issued.specs.LogMisses.{OfUsable}
use Rattle.it_issued.specs.inside.Tied.{Tied}
use Rattle.it_issued.proofs.logged.is_tied_to_one.Given as goal

-- the timestamp is so tied to none of the logs so far, and the budget is the one that was given
abbrev pub invariant-loop-log : goal.invariant-loop-log
invariant-loop-log l = record {
  none : All (λ log. ¬ OfUsable (Tied l.tie l.text (stamp_of l.timestamp)) log) (take l.log-index l.logs);
  most : l.budget.most ≡ l.fn.budget.most;
  grows : l.fn.budget.checked ≤ l.budget.checked;
}
