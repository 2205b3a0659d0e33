use Rattle.std.proofs.Common.{◌∙◌, Global, Vec, ap, map, sym, ℕ}
use Rattle.std.proofs.lemmas.List.{take_all}
use Rattle.std.proofs.lemmas.Simd.{map-map}
use Rattle.it_notes.specs.NoteLines.{note_lines}
use Rattle.it_verify_command.specs.FullOutput.{without_feed}
use Rattle.it_verify_command.proofs.full_output.notes.Goals as goal

pub returns : goal.returns
returns g c =
    let lines = c.as_slice-line-items.result.now in
    let bytes = λ (line : Vec ℕ Global). line.items in
    let told = c.in_ok-told_lines.ensures in
    record {
      notes = told.notes;
      are_true = told.are_true;
      lines_are = c.loop-line.invariant
          ∙ ap (map (λ (line : Vec ℕ Global). without_feed line.items))
          (take_all c.loop-line.line-index lines c.loop-line-test.false
          ∙ c.as_slice-line-items.ensures.value)
          ∙ sym (map-map without_feed bytes c.in_ok-lines.lines.items)
          ∙ ap (map without_feed) (c.in_ok-lines.ensures (note_lines told.notes) told.hold);
    }
