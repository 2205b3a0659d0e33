use Rattle.std.proofs.Common.{◌≡◌, ◌∙◌, ◌+◌, ◌*◌, ◌≤◌, ℕ, Some, true, drop, length, refl, sym}
use Rattle.std.proofs.Common.{arith}
use Rattle.std.specs.FinMap.{len}
use Rattle.std.proofs.lemmas.Slice.Eq.{bytes_eq-Decides}
use Rattle.it_base.proofs.Elements.{contains_at}
use Rattle.it_dsse.specs.Meter.{RaisedBy}
use Rattle.it_prov.specs.Answered.{IsAskedOfBuilder}
use Rattle.it_prov.specs.Asked.{AtLeast}
use Rattle.it_prov.specs.Cost.{key_count}
use Rattle.it_prov.specs.inside.Judged.{IsAskedOfBuilders, IsBuiltBy}
use Rattle.it_prov.proofs.Answering.{answer_for}
use Rattle.it_prov.proofs.Asking.{leaves_all, leaves_at_most, leaves_builder, raised_as}
use Rattle.it_prov.proofs.Asking.{raised_none, raised_still}
use Rattle.it_prov.proofs.Greatest.{Step, enough_or_greatest, short_or, so_far_all, so_far_more}
use Rattle.it_prov.proofs.Greatest.{so_far_none, step_past}
use Rattle.it_prov.proofs.Meeting.{built_greatest}
use Rattle.it_prov.proofs.builders.level_of_builders.Goals as goal
use Rattle.it_prov.proofs.builders.level_of_builders.Goals.{
  then-eq+then-recall+else-builder-wanted,
}
use Rattle.it_prov.proofs.builders.level_of_builders.Goals.{else-eq}
use Rattle.it_prov.proofs.builders.level_of_builders.Goals.{else-eq-via-then-eq+else-recall}
use Rattle.it_prov.proofs.builders.level_of_builders.Goals.{else-eq-via-else-eq}

pub loop-index-init : goal.loop-index-init
loop-index-init c = λ panel envelope are. (
  so_far_none c.args.wanted (IsBuiltBy panel envelope c.args.id.now),
  leaves_all _ (key_count c.args.builders.now * length envelope.signatures)
      c.args.meter.now refl,
)

pub returns-then-builder-wanted-clause-answer : goal.returns-then-builder-wanted-clause-answer
returns-then-builder-wanted-clause-answer c = λ panel envelope are.
    let one = answer_for panel envelope c.args.builders.now c.args.answers.now c.loop-index.index
    c.index-builders-index.result are c.loop-index-test.true c.index-builders-index.is in
    let told = c.recall.ensures panel envelope c.index-builders-index.result
    (one _ c.for_builder.ensures) in
    let id : c.args.id.now ≡ c.index-builders-index.result.id =
    sym ((bytes_eq-Decides _ _).0 (sym c.eq.ensures ∙ c.if-eq.true)) ∙ c.as_str.ensures in (
      (
        c.index-builders-index.result,
        contains_at c.args.builders.now c.loop-index.index c.index-builders-index.result
            c.loop-index-test.true c.index-builders-index.is,
        record {
          id_is = id;
          level_is = refl;
          signed = told.answer.0 c.if-recall.true;
        },
      ),
      λ short. absurd (let enough = c.if-builder-wanted.true in omega (arith, enough, short)),
    )

pub returns-then-builder-wanted-clause-at_most : goal.returns-then-builder-wanted-clause-at_most
returns-then-builder-wanted-clause-at_most c = λ panel envelope are.
    let one = answer_for panel envelope c.args.builders.now c.args.answers.now c.loop-index.index
    c.index-builders-index.result are c.loop-index-test.true c.index-builders-index.is in
    let told = c.recall.ensures panel envelope c.index-builders-index.result
    (one _ c.for_builder.ensures) in
    let s = length envelope.signatures in
    let i = c.loop-index.index in
    let builders = c.args.builders.now in
    leaves_at_most (key_count (drop (i + 1) builders) * s) (key_count builders * s) c.args.meter.now
    c.recall.new.meter
    (leaves_builder c.args.meter.now c.loop-index.meter c.recall.new.meter i s builders
    c.index-builders-index.result c.loop-index-test.true c.index-builders-index.is
    (c.loop-index.invariant panel envelope are).1 told.at_most)

pub returns-then-builder-wanted-clause-at_least : goal.returns-then-builder-wanted-clause-at_least
returns-then-builder-wanted-clause-at_least c = λ panel envelope are.
    let one = answer_for panel envelope c.args.builders.now c.args.answers.now c.loop-index.index
    c.index-builders-index.result are c.loop-index-test.true c.index-builders-index.is in
    let told = c.recall.ensures panel envelope c.index-builders-index.result
    (one _ c.for_builder.ensures) in
    let builder = c.index-builders-index.result in
    let id : c.args.id.now ≡ builder.id =
    sym ((bytes_eq-Decides _ _).0 (sym c.eq.ensures ∙ c.if-eq.true)) ∙ c.as_str.ensures in
    let stands = contains_at c.args.builders.now c.loop-index.index builder
    c.loop-index-test.true c.index-builders-index.is in
    let of_one = IsAskedOfBuilder panel envelope builder in
    let of_all = IsAskedOfBuilders panel envelope c.args.builders.now c.args.id.now c.args.wanted in
    λ enough. raised_still _ of_all c.args.meter.now c.loop-index.meter c.recall.new.meter
    (c.loop-index.invariant panel envelope are).1
    (raised_as of_one of_all (λ n a. record {
      builder = builder;
      stands = stands;
      built = record {
        id_is = id;
        level_is = refl;
        signed = a.signed;
      };
      is_enough = enough;
      tried = a.tried;
    })
    c.loop-index.meter c.recall.new.meter (told.at_least c.if-recall.true))

pub loop-index-preserved : goal.loop-index-preserved
loop-index-preserved c = λ panel envelope are.
    let one = answer_for panel envelope c.args.builders.now c.args.answers.now c.loop-index.index
    c.index-builders-index.result are c.loop-index-test.true c.index-builders-index.is in
    let built = IsBuiltBy panel envelope c.args.id.now in
    let s = length envelope.signatures in
    let builder = c.index-builders-index.result in
    let before = c.loop-index.best in
    let step : Step c.args.wanted (built builder) before c.if-eq.best =
    elim c.if-eq.branch [
      | then-eq+then-recall+else-builder-wanted w ↦
          let id : c.args.id.now ≡ builder.id =
          sym ((bytes_eq-Decides _ _).0 (sym c.eq.ensures ∙ w.if-eq.true)) ∙ c.as_str.ensures in
          record {
            more = Some builder.level;
            greatest = built_greatest panel envelope c.args.id.now builder (record {
              id_is = id;
              level_is = refl;
              signed = (w.recall.ensures panel envelope builder
                  (one _ w.for_builder.ensures)).answer.0 w.if-recall.true;
            });
            short = w.if-builder-wanted.false;
            both = rw w.best-is w.greater-best.ensures;
          }
      | else-eq w ↦
          let fails : (n : ℕ) → ¬ built builder n =
          elim w.else-eq.branch [
            | else-eq-via-then-eq+else-recall v ↦ λ n b.
                (let is : v.recall.result ≡ true = (v.recall.ensures panel envelope builder (one
                _ v.for_builder.ensures)).answer.1 b.signed in
                cc (is, v.if-recall.false))
            | else-eq-via-else-eq v ↦ λ n b. (let is : c.eq.result ≡ true = c.eq.ensures
                ∙ (bytes_eq-Decides _ _).1 (c.as_str.ensures ∙ sym b.id_is) in
                cc (is, v.if-eq.false))
          ] in
          step_past c.args.wanted (built builder) before c.if-eq.best fails w.best-is
    ] in
    let asked : RaisedBy (λ n. n ≤ len builder.keys * s) c.loop-index.meter c.if-eq.meter =
    elim c.if-eq.branch [
      | then-eq+then-recall+else-builder-wanted w ↦ rw w.meter-is (w.recall.ensures panel envelope
          builder (one _ w.for_builder.ensures)).at_most
      | else-eq w ↦ rw w.meter-is elim w.else-eq.branch [
        | else-eq-via-then-eq+else-recall v ↦ rw v.meter-is (v.recall.ensures panel envelope builder
            (one _ v.for_builder.ensures)).at_most
        | else-eq-via-else-eq v ↦ raised_none (len builder.keys * s) c.loop-index.meter
            w.else-eq.meter v.meter-is
      ]
    ] in (
      so_far_more c.args.wanted built c.args.builders.now c.loop-index.index
          builder c.loop-index-test.true c.index-builders-index.is before c.if-eq.best
          (c.loop-index.invariant panel envelope are).0 step,
      leaves_builder c.args.meter.now c.loop-index.meter c.if-eq.meter
          c.loop-index.index s c.args.builders.now builder c.loop-index-test.true
          c.index-builders-index.is (c.loop-index.invariant panel envelope are).1 asked,
    )

pub returns-clause-answer : goal.returns-clause-answer
returns-clause-answer c = λ panel envelope are.
    let built = IsBuiltBy panel envelope c.args.id.now in
    enough_or_greatest c.args.wanted _ c.loop-index.best
    (so_far_all c.args.wanted built c.args.builders.now c.loop-index.index
    c.loop-index.best c.loop-index-test.false (c.loop-index.invariant panel envelope
    are).0).greatest

pub returns-clause-at_most : goal.returns-clause-at_most
returns-clause-at_most c = λ panel envelope are.
    let s = length envelope.signatures in
    leaves_at_most (key_count (drop c.loop-index.index c.args.builders.now) * s)
    (key_count c.args.builders.now * s) c.args.meter.now c.loop-index.meter
    (c.loop-index.invariant panel envelope are).1

pub returns-clause-at_least : goal.returns-clause-at_least
returns-clause-at_least c = λ panel envelope are.
    let asked = IsAskedOfBuilders panel envelope c.args.builders.now c.args.id.now
    c.args.wanted in
    short_or c.args.wanted (RaisedBy (AtLeast asked) c.args.meter.now c.loop-index.meter)
    c.loop-index.best (c.loop-index.invariant panel envelope are).0.short
