use Rattle.std.proofs.Common.{◌≡◌, ℕ, List, ◌++◌}
use Rattle.std.specs.FinMap.{entries}
use Rattle.std.specs.List.{AllZip}
use Rattle.it_base.specs.Table.{named_entries}
use Rattle.it_dsse.specs.declared.key_object.KeyObject.{KeyObject}
use Rattle.it_rule_notes.specs.Owner.{IsOnOwner}
use Rattle.it_rule_notes.proofs.owner_note.owner_notes.Given as goal

-- a note on each owner so far, and the owners that are left
abbrev pub invariant-loop-id : goal.invariant-loop-id
invariant-loop-id g l =
    (done : List (List ℕ × KeyObject)) × (entries l.owners ≡ done ++ named_entries l.id-iterator)
    × AllZip (IsOnOwner (g.C.Checks.panel l.checks) l.envelope) done l.notes.items
