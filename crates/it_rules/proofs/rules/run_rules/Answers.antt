use Rattle.std.proofs.Common.{◌≡◌, ◌++◌, ◌∙◌, length, take, drop, refl, arith, subst, ap}
use Rattle.std.proofs.Math.Seq.{take-append_seam}
use Rattle.std.proofs.lemmas.Option.{slice_get_read}
use Rattle.it_rules.specs.Marks.{IsLeft}
use Rattle.it_rules.proofs.Running.{one_more, fault_of, fault_refutes, all_run}
use Rattle.it_rules.proofs.rules.run_rules.Goals as goal

pub returns-in-Some-clause-holds : goal.returns-in-Some-clause-holds
returns-in-Some-clause-holds c =
    let here = slice_get_read c.args.rules.now _ c.loop-index.index c.index-rules-index.result refl
    c.loop-index-test.true c.index-rules-index.is in
    let fails = rw (c.deref.ensures.value, c.deref-in-loop-index.ensures.value) at
    c.in-Some.ensures in (
      λ h. absurd (cc h),
      λ all. absurd (fault_refutes _ _ _ _ _ _
          (fault_of _ _ _ _ _ c.loop-index.index c.index-rules-index.result c.in-Some.path.now
          c.loop-index.invariant.running here fails.0 fails.1) all),
    )

pub returns-in-Some-clause-fails : goal.returns-in-Some-clause-fails
returns-in-Some-clause-fails c =
    let here = slice_get_read c.args.rules.now _ c.loop-index.index c.index-rules-index.result refl
    c.loop-index-test.true c.index-rules-index.is in
    let fails = rw (c.deref.ensures.value, c.deref-in-loop-index.ensures.value) at
    c.in-Some.ensures in
    rw c.in_ok-path.ensures
    (fault_of _ _ _ _ _ c.loop-index.index c.index-rules-index.result c.in-Some.path.now
    c.loop-index.invariant.running here fails.0 fails.1)

pub loop-index-preserved : goal.loop-index-preserved
loop-index-preserved c =
    let here = slice_get_read c.args.rules.now _ c.loop-index.index c.index-rules-index.result refl
    c.loop-index-test.true c.index-rules-index.is in
    let new = c.consume.new.marks in
    let len : length new ≡ c.loop-index.marks.len =
    omega (arith, c.consume.auto.marks, c.deref_mut.ensures.len) in
    let whole : take c.loop-index.marks.len (new ++ drop (length new) c.loop-index.marks.items)
    ≡ new = subst (λ n. take n (new ++ drop (length new) c.loop-index.marks.items) ≡ new) len
    (take-append_seam new _) in
    let holds = rw (c.deref.ensures.value, c.deref-in-loop-index.ensures.value) at
    c.in_default.ensures in
    let left = rw (c.deref-in-loop-index-2.ensures.value, c.deref_mut.ensures.value) at
    c.in_ok-consume.ensures in
    rw whole (record {
      running = one_more _ _ _ _ (IsLeft c.in_ok-paths.field-0.paths.items c.loop-index.marks.items)
          (IsLeft c.in_ok-paths.field-0.paths.items new) c.loop-index.index c.index-rules-index.result
          c.loop-index.invariant.running here holds left;
      lengths = c.consume.auto.marks ∙ ap length c.deref_mut.ensures.value
          ∙ c.loop-index.invariant.lengths;
    })

pub returns-clause-holds : goal.returns-clause-holds
returns-clause-holds c = (
  λ h. all_run _ _ _ _ _ c.loop-index.index c.loop-index.invariant.running
      c.loop-index-test.false,
  λ all. refl,
)
