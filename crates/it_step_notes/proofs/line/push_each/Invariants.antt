use Rattle.std.proofs.Common.{◌≡◌, ◌++◌, take}
use Rattle.std.specs.List.{flat_map}
use Rattle.it_step_notes.specs.Line.{behind}
use Rattle.it_step_notes.proofs.line.push_each.Given as goal

-- the names so far, each behind the prefix
abbrev pub invariant-loop-name : goal.invariant-loop-name
invariant-loop-name l = l.text.items ≡ l.fn.text.items
    ++ flat_map (behind l.prefix) (take l.name-index l.names)
