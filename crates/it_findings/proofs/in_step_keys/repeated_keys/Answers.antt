use Rattle.std.proofs.Common.{refl, take}
use Rattle.it_findings.proofs.Joining.{joined_more}
use Rattle.it_findings.proofs.Saying.{said_of}
use Rattle.it_findings.proofs.SeenIds.{seen_more, stood}
use Rattle.it_findings.specs.StepKeyFindings.{RepeatedKeyFindings}
use Rattle.it_findings.specs.declared.finding.Finding.TheVariants.{RepeatedKey}
use Rattle.it_findings.proofs.in_step_keys.repeated_keys.Goals as goal

pub loop-place-init : goal.loop-place-init
loop-place-init c =
    record { seen = λ q. rw c.new-seen.ensures.empty refl; joined = c.new-found.ensures.items }

pub loop-place-preserved : goal.loop-place-preserved
loop-place-preserved c =
    let ids = c.args.ids.now in
    let i = c.loop-place.place in
    let id = c.index-ids-place.result in
    let seen = c.loop-place.seen in
    let said = said_of (RepeatedKey c.args.at.now i id) c.in_ok-here.here.items
    (stood (take i ids) id c.as_str.result seen c.in_ok-is_new.is_new c.as_str.ensures
    c.in_ok-is_new.ensures.added c.loop-place.invariant.seen)
    c.in_ok-here.ensures in
    record {
      seen = seen_more ids i id c.as_str.result seen c.insert.new.self c.loop-place-test.true
          c.index-ids-place.is c.as_str.ensures c.in_ok-is_new.ensures.updates.0
          c.loop-place.invariant.seen;
      joined = rw c.in_ok-append.ensures.items
          (joined_more (RepeatedKeyFindings ids c.args.at.now) ids i id c.loop-place.found.items
          c.in_ok-here.here.items c.loop-place-test.true c.index-ids-place.is
          c.loop-place.invariant.joined said);
    }
