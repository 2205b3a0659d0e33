use Rattle.std.proofs.Common.{arith, refl, subst, take_all}
use Rattle.it_base.proofs.Members.{in_none}
use Rattle.it_prov.specs.Best.{IsGreatest}
use Rattle.it_prov.specs.inside.Judged.{IsBuiltBy, OfSome}
use Rattle.it_file_evidence.proofs.HighestLevels.{none_more, one_greater}
use Rattle.it_file_evidence.proofs.levels.greatest_level.Goals as goal
use Rattle.it_file_evidence.proofs.levels.greatest_level.Goals.{then-built, else-built}

pub loop-builder-init : goal.loop-builder-init
loop-builder-init g c = λ n h. in_none h.0 h.1

pub loop-builder-preserved : goal.loop-builder-preserved
loop-builder-preserved g c =
    let panel = g.C.Checks.panel c.args.checks.now in
    let R = IsBuiltBy panel c.args.envelope.now c.args.id.now in
    let builders = c.args.builders.now in
    let i = c.loop-builder.builder-index in
    let builder = c.builder-item.result in
    elim c.if-built.branch [
      | then-built w ↦
          rw w.best-is
          (one_greater R builders i builder c.loop-builder-test.true c.builder-item.is builder.level
          (c.in_ok-built.ensures.0 w.if-built.true) (λ n r. r.level_is) c.loop-builder.best
          w.greater.result c.loop-builder.invariant w.greater.ensures)
      | else-built w ↦
          rw w.best-is
          (none_more R builders i builder c.loop-builder-test.true c.builder-item.is
          c.loop-builder.best c.loop-builder.invariant
          (λ n r. (let is = c.in_ok-built.ensures.1 (record {
            id_is = r.id_is;
            level_is = refl;
            signed = r.signed;
          }) in cc (is, w.if-built.false))))
    ]

pub returns : goal.returns
returns g c =
    let R = IsBuiltBy (g.C.Checks.panel c.args.checks.now) c.args.envelope.now c.args.id.now in
    subst (λ builders. IsGreatest (OfSome R builders) c.loop-builder.best)
    (take_all c.loop-builder.builder-index c.args.builders.now
    (omega (arith, c.loop-builder-test.false))) c.loop-builder.invariant
