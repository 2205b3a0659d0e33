use Rattle.std.proofs.Common.{◌∙◌, ℕ, List, [], Bor, arith, refl}
use Rattle.it_issued.specs.inside.Tied.{IsTiedItem}
use Rattle.it_issued.proofs.Logging.{any_here, none_left, none_more}
use Rattle.it_issued.proofs.logged.has_tied.Goals as goal

pub loop-item-init : goal.loop-item-init
loop-item-init c = record { none = λ k d below p. omega arith; most = refl; grows = omega arith }

pub returns-then-branch-clause-answer : goal.returns-then-branch-clause-answer
returns-then-branch-clause-answer c =
    let empty : Bor (List ℕ) = record { ref_ptr = (0, 0); now = [] } in
    any_here (IsTiedItem c.args.shown.now.logs.now c.args.shown.now.issuer_key.now c.args.shown.now.bare.now c.args.tie) c.args.items.now
    c.loop-item.item-index empty c.loop-item-test.true (c.in_ok-is_tied_item.ensures.answer.0 c.if-branch.true)

pub loop-item-preserved : goal.loop-item-preserved
loop-item-preserved c =
    let empty : Bor (List ℕ) = record { ref_ptr = (0, 0); now = [] } in
    let tied = c.in_ok-is_tied_item.ensures in
    record {
      none = none_more (IsTiedItem c.args.shown.now.logs.now c.args.shown.now.issuer_key.now c.args.shown.now.bare.now c.args.tie) c.args.items.now
          c.loop-item.item-index empty c.loop-item-test.true c.loop-item.invariant.none
          (λ is. let yes = tied.answer.1 is in cc);
      most = tied.most ∙ c.loop-item.invariant.most;
      grows = omega (arith, tied.grows, c.loop-item.invariant.grows);
    }

pub returns-clause-answer : goal.returns-clause-answer
returns-clause-answer c =
    let empty : Bor (List ℕ) = record { ref_ptr = (0, 0); now = [] } in
    none_left (IsTiedItem c.args.shown.now.logs.now c.args.shown.now.issuer_key.now c.args.shown.now.bare.now c.args.tie) c.args.items.now
    c.loop-item.item-index empty c.loop-item-test.false c.loop-item.invariant.none
