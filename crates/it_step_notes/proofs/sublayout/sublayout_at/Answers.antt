use Rattle.std.proofs.Common.{◌≡◌, ◌∙◌, Contains, map, subst, sym}
use Rattle.std.proofs.lemmas.Map.Made.{AllPairs-from_IsDistinct}
use Rattle.std.proofs.lemmas.Slice.Eq.{bytes_eq-Decides}
use Rattle.it_docs.specs.Step.{names_of}
use Rattle.it_docs.specs.declared.step.Inspection.{Inspection}
use Rattle.it_docs.specs.declared.step.Step.{Step}
use Rattle.it_step_notes.specs.Sublayout.{IsSublayoutOf}
use Rattle.it_docs.proofs.OneName.{one_named}
use Rattle.it_step_notes.proofs.sublayout.sublayout_at.Goals as goal

pub returns-clause-leads : goal.returns-clause-leads
returns-clause-leads g c = record {
  step = c.in-Some.step.now;
  stands = rw c.as_slice.ensures at c.in-Some.ensures.0;
  name_is = c.in-Some.ensures.1 ∙ c.as_str-name.ensures;
  is_sublayout = rw (c.in-Some-2.is, c.as_str-id.ensures) at c.in_ok-signed.ensures;
}

pub returns-in_default-2-clause-leads : goal.returns-in_default-2-clause-leads
returns-in_default-2-clause-leads g c = λ below down.
    let panel = g.C.Checks.panel c.args.checks.now in
    let layout = c.args.layout.now in
    let found = c.in-Some.step.now in
    let stands : Contains layout.steps found = rw c.as_slice.ensures at c.in-Some.ensures.0 in
    let name = c.in-Some.ensures.1 ∙ c.as_str-name.ensures in
    let differ = AllPairs-from_IsDistinct bytes_eq-Decides
    (names_of layout.steps layout.inspections) layout.names_differ in
    let same : down.step ≡ found = one_named (λ (s : Step). s.name)
    (map (λ (i : Inspection). i.name) layout.inspections) layout.steps differ down.step found
    down.stands stands (down.name_is ∙ sym name) in
    (rw (c.in_default-2.is, c.as_str-id.ensures) at c.in_ok-signed.ensures) below
    (subst (λ (s : Step). IsSublayoutOf panel layout c.args.bundle.now s c.args.place.now.1 below)
    same down.is_sublayout)
