use Rattle.std.proofs.Common.{◌≡◌, take}
use Rattle.std.specs.List.{flat_map}
use Rattle.it_vouched.specs.SilentText.{silent_text}
use Rattle.it_vouched.proofs.silent_notes.lines_of.Given as goal

-- the lines so far
abbrev pub invariant-loop-line : goal.invariant-loop-line
invariant-loop-line l = l.text.items ≡ flat_map silent_text (take l.line-index l.silent)
