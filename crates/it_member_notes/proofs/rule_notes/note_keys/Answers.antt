use Rattle.std.proofs.Common.{refl, sym, ◌∙◌}
use Rattle.std.proofs.lemmas.List.Elements.{All-push}
use Rattle.it_base.proofs.Elements.{contains_at}
use Rattle.it_member_notes.specs.LayoutNotes.{Holds}
use Rattle.it_member_notes.proofs.Noting.{none_is}
use Rattle.it_member_notes.proofs.rule_notes.note_keys.Goals as goal
use Rattle.it_member_notes.proofs.rule_notes.note_keys.Goals.{then-not-has_key_object+in_ok-no_key_object+in_ok-push, else-not-has_key_object}

pub loop-id-preserved : goal.loop-id-preserved
loop-id-preserved c =
    let below = rw c.as_slice-id-items.ensures at c.loop-id-test.true in
    let here = rw c.as_slice-id-items.ensures at c.id-item.is in
    elim c.if-not-has_key_object.branch [
      | then-not-has_key_object+in_ok-no_key_object+in_ok-push w ↦
          rw (w.notes-is, w.in_ok-push.ensures.items)
          (All-push (Holds c.args.layout.now) _ _ c.loop-id.invariant
          (rw w.in_ok-no_key_object.ensures
          (record {
            of = c.args.step.now;
            in_layout = c.requires.in_layout;
            named = refl;
            may_sign = contains_at c.args.step.now.pubkeys _ _ below here;
            no_object = none_is _ (sym c.has_key_object.ensures ∙ w.if-not-has_key_object.true);
          })))
      | else-not-has_key_object w ↦ rw w.notes-is c.loop-id.invariant
    ]
