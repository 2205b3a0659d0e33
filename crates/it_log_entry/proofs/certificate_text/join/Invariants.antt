use Rattle.std.proofs.Common.{◌≡◌, take}
use Rattle.std.specs.List.{concat}
use Rattle.it_log_entry.specs.inside.Lines.{texts_of}
use Rattle.it_log_entry.proofs.certificate_text.join.Given as goal

-- the lines so far, one after another
abbrev pub invariant-loop-line : goal.invariant-loop-line
invariant-loop-line l = l.text.items ≡ concat (texts_of (take l.line-index l.lines))
