use Rattle.std.proofs.Common.{◌≡◌, Global, Vec, take, ℕ}
use Rattle.std.specs.List.{flat_map}
use Rattle.it_notes.proofs.lines.Lines.into_text.Given as goal

-- the bytes of the lines so far
abbrev pub invariant-loop-line : goal.invariant-loop-line
invariant-loop-line l = l.text.items
    ≡ flat_map (λ (line : Vec ℕ Global). line.items) (take l.line-index l.line-items)
