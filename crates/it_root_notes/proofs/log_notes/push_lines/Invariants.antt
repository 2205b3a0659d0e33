use Rattle.std.proofs.Common.{◌≡◌, ◌++◌, drop}
use Rattle.it_root_notes.specs.LogText.{log_lines, log_text}
use Rattle.it_root_notes.proofs.Lines.{lines_from}
use Rattle.it_root_notes.proofs.log_notes.push_lines.Given as goal

-- the lines so far, and those on the logs that are left
abbrev pub invariant-loop-place : goal.invariant-loop-place
invariant-loop-place l = l.text.items ++ lines_from (log_text l.list) l.place (drop l.place l.logs)
    ≡ l.fn.text.items ++ log_lines l.list l.logs
