use Rattle.std.proofs.Common.{◌≡◌, drop}
use Rattle.std.specs.List.{list_any}
use Rattle.it_root_notes.specs.LogText.{is_used}
use Rattle.it_root_notes.proofs.log_notes.has_used.Given as goal

-- the answer is that of the logs that are left
abbrev pub invariant-loop-log : goal.invariant-loop-log
invariant-loop-log l = list_any is_used (drop l.log-index l.logs) ≡ list_any is_used l.logs
