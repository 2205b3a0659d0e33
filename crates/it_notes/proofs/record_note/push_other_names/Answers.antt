use Rattle.std.proofs.Common.{◌++◌, ◌∙◌, ap, append_assoc}
use Rattle.it_notes.specs.NoteLines.{names_form}
use Rattle.it_notes.proofs.record_note.push_other_names.Goals as goal

pub returns : goal.returns
returns c = c.in_ok-push_names.ensures
    ∙ ap (λ text. text ++ names_form c.args.names.now c.args.others) c.in_ok-push_told.ensures
    ∙ append_assoc c.args.text.now.items _ _
