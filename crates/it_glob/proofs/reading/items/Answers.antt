use Rattle.std.proofs.Common.{◌≡◌, ℕ, ap, sym, ◌∙◌}
use Rattle.std.proofs.lemmas.List.{take_rest}
use Rattle.it_glob.specs.Pattern.{item_at}
use Rattle.it_glob.proofs.Sets.{read_more, item_at-closed, closed_from_item, still_closed}
use Rattle.it_glob.proofs.Sets.{bracket_from_test, none_from_test}
use Rattle.it_glob.proofs.reading.items.Goals as goal
use Rattle.it_glob.proofs.reading.items.Goals.{then-may_close+in_ok-item, else-may_close}
use Rattle.it_glob.proofs.reading.items.Goals.{then-may_close-2+then-first-ne91}
use Rattle.it_glob.proofs.reading.items.Goals.{then-may_close-2+else-first-ne91, else-may_close-2}

pub loop-first-preserved : goal.loop-first-preserved
loop-first-preserved c =
    let first : ℕ = c.in-Some.first.now in
    let others = c.in-Some.others.now in
    let here = c.in-Some.ensures.cases.0 in
    let is : c.if-may_close.item ≡ item_at first others =
    elim c.if-may_close.branch [
      | then-may_close+in_ok-item w ↦ w.item-is ∙ w.in_ok-item.ensures.answer
      | else-may_close w ↦
          w.item-is ∙ ap (λ i. (i, 0)) w.plain.ensures
          ∙ sym (item_at-closed first others
          (rw here at (c.loop-first.invariant.closed w.if-may_close.false)))
    ] in
    rw (take_rest others c.if-may_close.item.1) (record {
      read = rw c.in_ok-push.ensures.items
          (read_more _ first others _ _ _ is (rw here at c.loop-first.invariant.read));
      closed = λ e. elim c.if-may_close-2.branch [
        | then-may_close-2+then-first-ne91 w ↦ absurd
            (w.if-first-ne91.true (bracket_from_test first (sym w.may_close-is ∙ e)))
        | then-may_close-2+else-first-ne91 w ↦ closed_from_item first _ _ others
            w.if-first-ne91.false (none_from_test _ (sym w.may_close-is ∙ e)) is
        | else-may_close-2 w ↦ still_closed _ others
            (rw here at (c.loop-first.invariant.closed w.if-may_close-2.false))
      ];
    })
