use Rattle.std.proofs.Common.{◌∙◌, [], get_or, sym, refl, false, true≢false}
use Rattle.std.specs.BTreeSet.{contains}
use Rattle.std.specs.List.{IsDistinct}
use Rattle.it_certificate.specs.declared.extension.Extension.{Extension}
use Rattle.it_certificate.proofs.Distinct.{id_cmp, was_seen, was_new, seen_more, distinct_more, repeats_here}
use Rattle.it_certificate.proofs.permitted.are_distinct.Goals as goal

abbrev no_extension : Extension
no_extension = record {
  id = record { ref_ptr = (0, 0); now = [] };
  critical = false;
  value = record { ref_ptr = (0, 0); now = [] };
}

pub loop-extension-init : goal.loop-extension-init
unfolding IsDistinct
loop-extension-init c = record { seen = λ q. rw c.new-seen.ensures.empty refl; distinct = tt }

pub returns-then-not-branch : goal.returns-then-not-branch
returns-then-not-branch c =
    let xs = c.args.extensions.now in
    let i = c.loop-extension.extension-index in
    let n = (get_or xs i no_extension).id in (
      λ t. absurd (true≢false (sym t)),
      λ all. absurd (repeats_here xs i no_extension c.loop-extension-test.true
          (sym (c.loop-extension.invariant.seen n) ∙ was_seen c.in_ok-insert.field-0
          (contains id_cmp c.loop-extension.seen n) c.in_ok-insert.ensures.added c.if-not-branch.true) all),
    )

pub loop-extension-preserved : goal.loop-extension-preserved
loop-extension-preserved c =
    let xs = c.args.extensions.now in
    let i = c.loop-extension.extension-index in
    let n = (get_or xs i no_extension).id in
    record {
      seen = seen_more xs i no_extension (contains id_cmp c.loop-extension.seen)
          (contains id_cmp c.insert.new.self) c.loop-extension-test.true c.loop-extension.invariant.seen
          c.in_ok-insert.ensures.updates.0;
      distinct = distinct_more xs i no_extension c.loop-extension-test.true c.loop-extension.invariant.distinct
          (sym (c.loop-extension.invariant.seen n) ∙ was_new c.in_ok-insert.field-0
          (contains id_cmp c.loop-extension.seen n) c.in_ok-insert.ensures.added c.if-not-branch.false);
    }
