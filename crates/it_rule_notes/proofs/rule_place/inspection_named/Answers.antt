use Rattle.std.proofs.Common.{◌≢◌, All, arith, subst}
use Rattle.std.proofs.lemmas.List.{take_all}
use Rattle.std.proofs.lemmas.List.Elements.{All-more}
use Rattle.std.proofs.lemmas.Slice.Eq.{bytes_eq-Decides}
use Rattle.it_docs.specs.declared.step.Inspection.{Inspection}
use Rattle.it_rule_notes.proofs.rule_place.inspection_named.Goals as goal

pub loop-inspection-preserved : goal.loop-inspection-preserved
loop-inspection-preserved c =
    let other : c.inspection-item.result.name ≢ c.args.name.now =
    λ e. (let same = (bytes_eq-Decides _ _).1 e in cc (same, c.as_str.ensures, c.eq.ensures, c.if-eq.false)) in
    All-more (λ (inspection : Inspection). inspection.name ≢ c.args.name.now) c.args.inspections.now
    c.loop-inspection.inspection-index c.inspection-item.result c.loop-inspection-test.true c.loop-inspection.invariant
    (subst (λ (inspection : Inspection). inspection.name ≢ c.args.name.now) c.inspection-item.is other)

pub returns : goal.returns
returns c =
    subst (All (λ (inspection : Inspection). inspection.name ≢ c.args.name.now))
    (take_all c.loop-inspection.inspection-index c.args.inspections.now (omega (arith, c.loop-inspection-test.false)))
    c.loop-inspection.invariant
