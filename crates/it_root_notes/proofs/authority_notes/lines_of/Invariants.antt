use Rattle.std.proofs.Common.{◌≡◌, ◌++◌, drop}
use Rattle.it_root_notes.specs.AuthorityText.{authority_lines, authority_text}
use Rattle.it_root_notes.proofs.Lines.{lines_from}
use Rattle.it_root_notes.proofs.authority_notes.lines_of.Given as goal

-- the lines so far, and those that are left
abbrev pub invariant-loop-place : goal.invariant-loop-place
invariant-loop-place l = l.text.items ++ lines_from authority_text l.place (drop l.place l.shortfalls)
    ≡ authority_lines l.shortfalls
