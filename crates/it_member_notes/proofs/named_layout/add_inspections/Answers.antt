use Rattle.it_docs.specs.declared.step.Inspection.{Inspection}
use Rattle.it_member_notes.proofs.Names.{names_more}
use Rattle.it_member_notes.proofs.named_layout.add_inspections.Goals as goal

pub loop-inspection-preserved : goal.loop-inspection-preserved
loop-inspection-preserved c = record {
  all = names_more (λ (i : Inspection). i.name) c.args.inspections.now
      c.loop-inspection.inspection-index c.inspection-item.result c.loop-inspection.names _
      c.loop-inspection-test.true c.inspection-item.is c.in_ok-add.ensures.kept
      c.in_ok-add.ensures.has c.loop-inspection.invariant.all;
  kept = λ name has.
      c.in_ok-add.ensures.kept name (c.loop-inspection.invariant.kept name has);
}
