use Rattle.std.proofs.Common.{◌<◌, refl, arith}
use Rattle.std.proofs.lemmas.Option.{slice_get_read}
use Rattle.it_rule_notes.specs.Missed.{IsMissed}
use Rattle.it_rule_notes.specs.inside.JudgedRules.{judging_in}
use Rattle.it_rule_notes.proofs.Missing.{taken}
use Rattle.it_rule_notes.proofs.missed.closest.Goals as goal

pub missed_at-requires : goal.missed_at-requires
missed_at-requires c =
    slice_get_read c.args.judged.now.rules.now _ c.loop-place.place c.rule-item.result refl
    c.loop-place-test.true c.rule-item.is

pub loop-place-preserved : goal.loop-place-preserved
loop-place-preserved c =
    let below : c.loop-place.place < c.args.index = omega arith in
    taken (IsMissed (judging_in c.args.judged.now) c.args.index c.args.path.now) c.closer-found.result
    c.loop-place.found c.in_ok-missed.missed c.closer-found.ensures c.loop-place.invariant
    (c.in_ok-missed.ensures c.args.index below)
