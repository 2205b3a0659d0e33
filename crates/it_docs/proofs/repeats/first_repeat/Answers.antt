use Rattle.std.proofs.Common.{◌∙◌, Bor, List, [], ℕ, get_or, sym, refl}
use Rattle.std.specs.BTreeSet.{contains}
use Rattle.std.specs.List.{IsDistinct}
use Rattle.it_docs.proofs.RepeatsSeen.{str_cmp, any_default, was_seen, was_new, seen_more}
use Rattle.it_docs.proofs.RepeatsSeen.{distinct_more, repeat_here}
use Rattle.it_docs.proofs.repeats.first_repeat.Goals as goal

pub loop-name-init : goal.loop-name-init
unfolding IsDistinct
loop-name-init c = record { seen = λ q. rw c.new-seen.ensures.empty refl; distinct = tt }

pub returns-then-not-branch : goal.returns-then-not-branch
returns-then-not-branch c =
    let d : Bor (List ℕ) = record { ref_ptr = (0, 0); now = [] } in
    let i = c.loop-name.name-index in
    let n = get_or c.args.names.now i d in
    repeat_here c.args.names.now i n c.loop-name-test.true
    (any_default c.args.names.now i d n c.loop-name-test.true) c.loop-name.invariant.distinct
    (sym (c.loop-name.invariant.seen n) ∙ was_seen c.in_ok-insert.field-0
    (contains str_cmp c.loop-name.seen n) c.in_ok-insert.ensures.added c.if-not-branch.true)

pub loop-name-preserved : goal.loop-name-preserved
loop-name-preserved c =
    let d : Bor (List ℕ) = record { ref_ptr = (0, 0); now = [] } in
    let i = c.loop-name.name-index in
    let n = get_or c.args.names.now i d in
    let here = any_default c.args.names.now i d n c.loop-name-test.true in
    record {
      seen = seen_more c.args.names.now i n (contains str_cmp c.loop-name.seen)
          (contains str_cmp c.insert.new.self) c.loop-name-test.true here c.loop-name.invariant.seen
          c.in_ok-insert.ensures.updates.0;
      distinct = distinct_more c.args.names.now i n c.loop-name-test.true here
          c.loop-name.invariant.distinct
          (sym (c.loop-name.invariant.seen n) ∙ was_new c.in_ok-insert.field-0
          (contains str_cmp c.loop-name.seen n) c.in_ok-insert.ensures.added
          c.if-not-branch.false);
    }
