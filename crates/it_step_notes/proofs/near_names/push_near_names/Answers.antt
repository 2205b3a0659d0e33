use Rattle.std.proofs.Common.{List, Contains, subst}
use Rattle.it_chain.specs.declared.bundle.File.{File}
use Rattle.it_step_notes.specs.StepNotes.{Holds}
use Rattle.it_base.proofs.Elements.{contains_at, kept_all}
use Rattle.it_step_notes.proofs.Kept.{given_at}
use Rattle.it_step_notes.proofs.near_names.push_near_names.Goals as goal

pub near_name-requires : goal.near_name-requires
near_name-requires c =
    let files = c.files-file-items.result.now in
    subst (λ (all : List File). Contains all c.file-item.result) c.files-file-items.ensures
    (contains_at files c.loop-file.file-index c.file-item.result c.loop-file-test.true c.file-item.is)

pub loop-file-preserved : goal.loop-file-preserved
loop-file-preserved c = λ panel before.
    let P = Holds panel c.args.at.now.layout.now c.args.at.now.bundle.now c.args.at.now.step.now in
    rw c.in_ok-push_some.ensures
    (kept_all P c.loop-file.notes.items _ (c.loop-file.invariant panel before)
    (given_at (λ other note. Holds other c.args.at.now.layout.now c.args.at.now.bundle.now
    c.args.at.now.step.now note) _ c.in_ok-near_name.ensures panel))
