use Rattle.std.proofs.Common.{All, IfSome, ap, map, sym}
use Rattle.it_report.specs.declared.refusal.Fault.TheVariants.{Threshold}
use Rattle.it_step_notes.specs.StepNotes.{Holds}
use Rattle.it_step_notes.specs.declared.note.StepNote.{StepNote}
use Rattle.it_notes.specs.FileDetails.{TellsDetail}
use Rattle.it_notes.specs.RefusalNotes.{TellsDetailed}
use Rattle.it_notes.specs.declared.file_detail.DetailedNote.{DetailedNote}
use Rattle.it_notes.proofs.Both.{both_all}
use Rattle.it_notes.proofs.steps.step_told.Goals as goal

pub returns : goal.returns
returns g c =
    let panel = g.C.Checks.panel c.args.checks.now in
    let level = c.args.level.now in
    let step = c.in-Some.step.now in
    let P : StepNote → Type 0 = Holds panel level.signed.layout level.links.now step in
    let Q : DetailedNote → Type 0 =
    λ each. IfSome each.detail (TellsDetail level.links.now step each.note) in
    let shown : All P (map (λ (each : DetailedNote). each.note) c.in_ok-told.told.items) =
    rw c.in_ok-told.ensures.same c.in_ok-notes.ensures in
    λ inputs found needed. record {
      step = step;
      found = found;
      needed = needed;
      fault_is = ap (λ name. Threshold name found needed) (sym c.in-Some.ensures.1);
      in_layout = rw (← c.as_slice.ensures) c.in-Some.ensures.0;
      are_true = both_all (λ each. each.note) P Q (TellsDetailed panel level step)
          (λ each note detail. record { note = note; detail = detail })
          c.in_ok-told.told.items shown c.in_ok-told.ensures.details;
    }
