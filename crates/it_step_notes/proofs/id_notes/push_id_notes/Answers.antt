use Rattle.std.proofs.Common.{ℕ, List, Contains, subst}
use Rattle.it_step_notes.specs.StepNotes.{Holds}
use Rattle.it_base.proofs.Elements.{contains_at, kept_all}
use Rattle.it_step_notes.proofs.Kept.{given_at}
use Rattle.it_step_notes.proofs.id_notes.push_id_notes.Goals as goal

pub no_key-requires : goal.no_key-requires
no_key-requires c =
    let ids = c.as_slice-id-items.result.now in
    rw c.as_str.ensures (subst (λ (all : List (List ℕ)). Contains all c.id-item.result)
    c.as_slice-id-items.ensures
    (contains_at ids c.loop-id.id-index c.id-item.result c.loop-id-test.true c.id-item.is))

pub no_file-requires : goal.no_file-requires
no_file-requires c =
    let ids = c.as_slice-id-items.result.now in
    rw c.as_str-in-loop-id.ensures (subst (λ (all : List (List ℕ)). Contains all c.id-item.result)
    c.as_slice-id-items.ensures
    (contains_at ids c.loop-id.id-index c.id-item.result c.loop-id-test.true c.id-item.is))

pub loop-id-preserved : goal.loop-id-preserved
loop-id-preserved c = λ panel before.
    let P = Holds panel c.args.at.now.layout.now c.args.at.now.bundle.now c.args.at.now.step.now in
    rw (c.in_ok-push_some-2.ensures, c.in_ok-push_some.ensures)
    (kept_all P _ _ (kept_all P c.loop-id.notes.items _ (c.loop-id.invariant panel before)
    (given_at (λ other note. Holds other c.args.at.now.layout.now c.args.at.now.bundle.now
    c.args.at.now.step.now note) _ c.in_ok-no_key.ensures panel))
    (given_at (λ other note. Holds other c.args.at.now.layout.now c.args.at.now.bundle.now
    c.args.at.now.step.now note) _ c.in_ok-no_file.ensures panel))
