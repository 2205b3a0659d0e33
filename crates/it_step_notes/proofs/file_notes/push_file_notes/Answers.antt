use Rattle.std.proofs.Common.{Contains, List, subst}
use Rattle.it_chain.specs.declared.bundle.File.{File}
use Rattle.it_step_notes.specs.StepNotes.{Holds}
use Rattle.it_base.proofs.Elements.{contains_at, kept_all}
use Rattle.it_step_notes.proofs.file_notes.push_file_notes.Goals as goal

pub file_note-requires : goal.file_note-requires
file_note-requires g c =
    let files = c.files-file-items.result.now in
    subst (λ (all : List File). Contains all c.file-item.result) c.files-file-items.ensures
    (contains_at files c.loop-file.file-index c.file-item.result c.loop-file-test.true c.file-item.is)

pub loop-file-preserved : goal.loop-file-preserved
loop-file-preserved g c =
    let panel = g.C.Checks.panel c.args.checks.now in
    rw c.in_ok-push_some.ensures
    (kept_all (Holds panel c.args.at.now.layout.now c.args.at.now.bundle.now c.args.at.now.step.now)
    c.loop-file.notes.items _ c.loop-file.invariant c.in_ok-file_note.ensures)
