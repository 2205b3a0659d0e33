use Rattle.std.proofs.Common.{◌≡◌, ◌∷◌, [], ◌∙◌, refl, IfSome, append_assoc}
use Rattle.std.specs.Vec.Iter.{into_iter_items}
use Rattle.std.proofs.lemmas.List.{map-append}
use Rattle.std.proofs.lemmas.List.Elements.{All-push}
use Rattle.it_notes.specs.FileDetails.{TellsDetail}
use Rattle.it_notes.specs.declared.file_detail.DetailedNote.{DetailedNote}
use Rattle.it_notes.proofs.details.with_details.Goals as goal

pub loop-note-preserved : goal.loop-note-preserved
loop-note-preserved c =
    let at = c.loop-note in
    let note = c.in-Some.note in
    let steps : into_iter_items at.note-iterator ≡ note ∷ into_iter_items c.next.new.self =
    c.in-Some.ensures.steps.0 in
    let Q : DetailedNote → Type 0 =
    λ each. IfSome each.detail (TellsDetail c.args.bundle.now c.args.step.now each.note) in
    record {
      given = append_assoc at.yielded (note ∷ []) _ ∙ rw (← steps) at.invariant.given;
      same = rw (c.in_ok-push.ensures.items, map-append, at.invariant.same) refl;
      details = rw c.in_ok-push.ensures.items
          (All-push Q at.told.items _ at.invariant.details c.in_ok-detail.ensures);
    }
