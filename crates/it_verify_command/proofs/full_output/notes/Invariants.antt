use Rattle.std.proofs.Common.{◌≡◌, Global, Vec, map, take, ℕ}
use Rattle.it_verify_command.specs.FullOutput.{without_feed}
use Rattle.it_verify_command.proofs.full_output.notes.Given as goal

-- the lines so far, without their line feeds
abbrev pub invariant-loop-line : goal.invariant-loop-line
invariant-loop-line g l = l.texts.items
    ≡ map (λ (line : Vec ℕ Global). without_feed line.items) (take l.line-index l.line-items)
