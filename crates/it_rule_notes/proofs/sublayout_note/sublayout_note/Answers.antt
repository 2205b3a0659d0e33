use Rattle.std.proofs.Common.{◌∙◌, sym}
use Rattle.it_rule_notes.specs.CountingFile.{setting_of}
use Rattle.it_rule_notes.specs.declared.sublayout_note.SublayoutNote.{SublayoutNote}
use Rattle.it_rule_notes.proofs.Told.{sublayout_told}
use Rattle.it_rule_notes.proofs.sublayout_note.sublayout_note.Goals as goal

pub returns : goal.returns
returns g c =
    let panel = g.C.Checks.panel c.args.checks.now in
    let note : SublayoutNote = record {
      step = c.in_ok-copy.field-0;
      id = c.in_ok-copy-2.field-0;
      file = c.in_ok-copy-3.field-0;
    } in (
      c.in_ok-copy.ensures,
      c.in_ok-copy-2.ensures,
      sublayout_told (setting_of panel c.args.level.now.moment) c.args.level.now.layout.now
          c.args.level.now.links.now note c.in-Some.asked.now c.args.id.now
          c.in_ok-files.files.items c.in-Some-2.file.now
          (rw c.as_slice.ensures at c.in-Some.ensures.0)
          (c.in-Some.ensures.1 ∙ sym c.in_ok-copy.ensures) c.in_ok-copy-2.ensures
          (sym (c.in_ok-copy-3.ensures ∙ c.as_str.ensures)) c.in_ok-files.ensures
          (rw c.as_slice-2.ensures.value at (rw c.in-Some-2.is at c.in_ok-file.ensures)),
    )
