use Rattle.std.proofs.Common.{◌≡◌, ◌∙◌, take, sym, subst, arith}
use Rattle.std.proofs.lemmas.List.{take_all}
use Rattle.std.proofs.lemmas.List.Elements.{All-more}
use Rattle.it_certificate_log.specs.Timestamp.{stamp_of}
use Rattle.it_issued.specs.LogMisses.{OfUsable}
use Rattle.it_issued.specs.inside.Tied.{Tied}
use Rattle.it_issued.proofs.Tests.{refused}
use Rattle.it_issued.proofs.logged.is_tied_to_one.Goals as goal

pub loop-log-preserved : goal.loop-log-preserved
loop-log-preserved c =
    let Of = OfUsable (Tied c.args.tie c.args.text.now (stamp_of c.args.timestamp.now)) in
    let tied = c.in_ok-is_tied_to_listed.ensures in
    record {
      none = All-more (λ log. ¬ OfUsable (Tied c.args.tie c.args.text.now (stamp_of c.args.timestamp.now)) log) c.args.logs.now
          c.loop-log.log-index c.log-item.result c.loop-log-test.true c.loop-log.invariant.none
          (λ is. let yes = tied.answer.1 (subst Of (sym c.log-item.is) is) in cc);
      most = tied.most ∙ c.loop-log.invariant.most;
      grows = omega (arith, tied.grows, c.loop-log.invariant.grows);
    }

pub returns-clause-answer : goal.returns-clause-answer
returns-clause-answer c =
    let Of = OfUsable (Tied c.args.tie c.args.text.now (stamp_of c.args.timestamp.now)) in
    let all : take c.loop-log.log-index c.args.logs.now ≡ c.args.logs.now = take_all c.loop-log.log-index c.args.logs.now (omega arith) in
    let none = rw all at c.loop-log.invariant.none in
    refused _ (λ any. none any.0 any.1 any.2 (subst Of (sym any.3) any.4))
