use Rattle.std.proofs.Common.{◌≡◌, take}
use Rattle.it_log_entry.specs.Note.{ended}
use Rattle.it_log_entry.specs.inside.Lines.{texts_of}
use Rattle.it_log_entry.proofs.note.ended_lines.Given as goal

-- the lines so far, each ended by a line feed
abbrev pub invariant-loop-line : goal.invariant-loop-line
invariant-loop-line l = l.text.items ≡ ended (texts_of (take l.line-index l.lines))
