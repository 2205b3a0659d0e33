use Rattle.std.proofs.Common.{◌≡◌, ◌++◌, ◌∙◌, length, map, take, drop, refl, arith, subst, ap}
use Rattle.std.proofs.Math.Seq.{take-append_seam}
use Rattle.std.proofs.lemmas.Option.{slice_get_read}
use Rattle.it_rules.specs.Item.{links_of, recorded_of}
use Rattle.it_rules.specs.Marks.{IsLeft}
use Rattle.it_rules.proofs.LentPaths.{bytes}
use Rattle.it_rules.proofs.Running.{free_more}
use Rattle.it_rules.proofs.Unmarked.{free_from_left}
use Rattle.it_rules.proofs.free.free_paths.Goals as goal

pub loop-rule-preserved : goal.loop-rule-preserved
loop-rule-preserved c =
    let here = slice_get_read c.args.rules.now _ c.loop-rule.rule-index c.rule-item.result refl
    c.loop-rule-test.true c.rule-item.is in
    let new = c.consume.new.marks in
    let len : length new ≡ c.loop-rule.marks.len =
    omega (arith, c.consume.auto.marks, c.deref_mut.ensures.len) in
    let whole : take c.loop-rule.marks.len (new ++ drop (length new) c.loop-rule.marks.items)
    ≡ new = subst (λ n. take n (new ++ drop (length new) c.loop-rule.marks.items) ≡ new) len
    (take-append_seam new _) in
    let left = rw (c.deref.ensures.value, c.deref_mut.ensures.value) at
    c.in_ok-consume.ensures in
    rw whole (record {
      free = free_more c.args.rules.now c.args.side (recorded_of c.args.item.now)
          (links_of c.args.links.now) (IsLeft c.in_ok-paths.field-0.paths.items c.loop-rule.marks.items)
          (IsLeft c.in_ok-paths.field-0.paths.items new) c.loop-rule.rule-index c.rule-item.result
          c.loop-rule.invariant.free here left;
      lengths = c.consume.auto.marks ∙ ap length c.deref_mut.ensures.value
          ∙ c.loop-rule.invariant.lengths;
    })

pub returns : goal.returns
returns c =
    let left = rw (c.deref-2.ensures.value, c.deref-3.ensures.value) at c.in_ok-left.ensures in
    free_from_left c.in_ok-paths.field-0.paths.items c.loop-rule.marks.items c.args.rules.now c.args.side
    (recorded_of c.args.item.now) (links_of c.args.links.now) c.loop-rule.rule-index
    c.loop-rule-test.false c.loop-rule.invariant.free (map bytes c.in_ok-left.left.items) left
