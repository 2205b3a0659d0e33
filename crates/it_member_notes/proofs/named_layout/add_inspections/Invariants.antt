use Rattle.std.proofs.Common.{All, take}
use Rattle.it_member_notes.specs.inside.NamedLayout.{HasName, HasNamesOf}
use Rattle.it_member_notes.proofs.named_layout.add_inspections.Given as goal

-- the names of the inspections so far are there, and all that were there before
abbrev pub invariant-loop-inspection : goal.invariant-loop-inspection
invariant-loop-inspection l = record {
  all : All (λ inspection. HasName l.names inspection.name)
      (take l.inspection-index l.inspections);
  kept : HasNamesOf l.initial.names l.names;
}
