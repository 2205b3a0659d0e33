use Rattle.std.proofs.Common.{◌∙◌, arith, refl}
use Rattle.it_log_entry.specs.Place.{place_of}
use Rattle.it_log_entry.specs.declared.shortfall.EntryShortfall.TheVariants as shortfalls
use Rattle.it_vouches.specs.EntryMissed.{MissesWith}
use Rattle.it_vouches.specs.Logged.{VouchesBy}
use Rattle.it_vouches.proofs.Furthest.{furthest_all, furthest_first, furthest_next}
use Rattle.it_vouches.proofs.Logs.{none_by, one_with}
use Rattle.it_vouches.proofs.Loops.{any_at, none_first, none_more, not_any}
use Rattle.it_vouches.proofs.entry_log.shortfall_by_logs.Goals as goal

pub loop-log-init : goal.loop-log-init
loop-log-init c = record {
  none = none_first (VouchesBy c.args.question.now.needs_proof c.args.entry.now c.args.question.now.logged);
  furthest = furthest_first place_of shortfalls.Log
      (MissesWith c.args.question.now.needs_proof c.args.entry.now c.args.question.now.logged);
  most = refl;
  grows = omega arith;
}

pub loop-log-preserved : goal.loop-log-preserved
loop-log-preserved c =
    let log = c.log-item.result in
    let misses = rw c.in-Some.is at c.in_ok-missed.ensures.answer in
    record {
      none = none_more (VouchesBy c.args.question.now.needs_proof c.args.entry.now c.args.question.now.logged) c.args.logs.now c.loop-log.log-index log
          c.loop-log-test.true c.log-item.is (none_by c.args.question.now.needs_proof c.args.entry.now c.args.question.now.logged log c.in-Some.missed misses)
          c.loop-log.invariant.none;
      furthest = furthest_next place_of shortfalls.Log (MissesWith c.args.question.now.needs_proof c.args.entry.now c.args.question.now.logged) c.args.logs.now
          c.loop-log.log-index log c.loop-log.furthest c.in-Some.missed c.further-furthest.result c.loop-log-test.true c.log-item.is
          c.loop-log.invariant.furthest misses
          (λ t other. one_with c.args.question.now.needs_proof c.args.entry.now c.args.question.now.logged log c.in-Some.missed t misses other)
          c.further-furthest.ensures;
      most = c.in_ok-missed.ensures.most ∙ c.loop-log.invariant.most;
      grows = omega (arith, c.in_ok-missed.ensures.grows, c.loop-log.invariant.grows);
    }

pub returns-in-None-clause-answer : goal.returns-in-None-clause-answer
returns-in-None-clause-answer c =
    any_at (VouchesBy c.args.question.now.needs_proof c.args.entry.now c.args.question.now.logged) c.args.logs.now c.loop-log.log-index
    c.log-item.result c.loop-log-test.true c.log-item.is (rw c.in-None.is at c.in_ok-missed.ensures.answer)

pub returns-clause-answer : goal.returns-clause-answer
returns-clause-answer c = record {
  no_log = not_any (VouchesBy c.args.question.now.needs_proof c.args.entry.now c.args.question.now.logged) c.args.logs.now c.loop-log.log-index
      c.loop-log-test.false c.loop-log.invariant.none;
  furthest = furthest_all place_of shortfalls.Log (MissesWith c.args.question.now.needs_proof c.args.entry.now c.args.question.now.logged)
      c.args.logs.now c.loop-log.log-index c.loop-log.furthest c.loop-log-test.false c.loop-log.invariant.furthest;
}
