use Rattle.std.proofs.Common.{◌≡◌, ◌∙◌, [], ◌∷◌, ◌++◌, zip, inl, inr, ⊎_elim, sym, ap}
use Rattle.std.proofs.Common.{subst, append_assoc, append-nil}
use Rattle.std.specs.Iterator.Adapters.{zip_first, zip_second}
use Rattle.std.specs.Slice.Iter.{iter_rest}
use Rattle.it_docs.specs.declared.rule.Side.TheVariants.{Materials, Products}
use Rattle.it_docs.specs.declared.step.Step.{Step}
use Rattle.it_rules.specs.Item.{links_of}
use Rattle.it_chain.specs.StepRules.{links_in}
use Rattle.it_chain.specs.inside.StepRules.{IsSideRuled, SideFails, SideHolds}
use Rattle.it_chain.specs.declared.chain.StepResult.{StepResult}
use Rattle.it_chain.proofs.Ruled.{Hold, holds_more, materials_fail, products_fail, zip_over}
use Rattle.it_chain.proofs.step_rules.first_failed.Goals as goal

pub returns-in-Some-2 : goal.returns-in-Some-2
returns-in-Some-2 c =
    let l = c.loop-step.invariant in
    let x = c.in-Some.ensures.steps in
    let step = c.in-Some.step.now in
    let found = c.in-Some.found.now in
    let p : Step × StepResult = (step, found) in
    let rest = zip (iter_rest (zip_first c.next.new.self))
    (iter_rest (zip_second c.next.new.self)) in
    let all : zip c.args.steps.now c.args.results.now ≡ l.0 ++ p ∷ rest =
    l.1 ∙ (λ k. l.0 ++ zip (x.0 k) (x.1 k)) in
    let same : links_of c.as_slice-links.result.now ≡ links_in c.args.results.now =
    ap links_of c.as_slice-links.ensures.value ∙ c.in_ok-links.ensures in
    let fails : SideFails (links_in c.args.results.now) step Materials found c.in-Some-2.refusal =
    rw c.in-Some-2.is at (subst (λ ls. IsSideRuled ls step Materials found c.in_ok-refusal.field-0)
    same c.in_ok-refusal.ensures) in
    materials_fail (links_in c.args.results.now) (zip c.args.steps.now c.args.results.now) l.0 rest
    p c.in-Some-2.refusal all l.2 fails

pub returns-in-Some-3 : goal.returns-in-Some-3
returns-in-Some-3 c =
    let l = c.loop-step.invariant in
    let x = c.in-Some.ensures.steps in
    let step = c.in-Some.step.now in
    let found = c.in-Some.found.now in
    let p : Step × StepResult = (step, found) in
    let rest = zip (iter_rest (zip_first c.next.new.self))
    (iter_rest (zip_second c.next.new.self)) in
    let all : zip c.args.steps.now c.args.results.now ≡ l.0 ++ p ∷ rest =
    l.1 ∙ (λ k. l.0 ++ zip (x.0 k) (x.1 k)) in
    let same : links_of c.as_slice-links.result.now ≡ links_in c.args.results.now =
    ap links_of c.as_slice-links.ensures.value ∙ c.in_ok-links.ensures in
    let materials : SideHolds (links_in c.args.results.now) step Materials found =
    rw c.in_default.is at (subst (λ ls. IsSideRuled ls step Materials found c.in_ok-refusal.field-0)
    same c.in_ok-refusal.ensures) in
    let fails : SideFails (links_in c.args.results.now) step Products found c.in-Some-3.refusal =
    rw c.in-Some-3.is at (subst (λ ls. IsSideRuled ls step Products found c.in_ok-refusal-2.field-0)
    same c.in_ok-refusal-2.ensures) in
    products_fail (links_in c.args.results.now) (zip c.args.steps.now c.args.results.now) l.0 rest
    p c.in-Some-3.refusal all l.2 materials fails

pub loop-step-preserved : goal.loop-step-preserved
loop-step-preserved c =
    let l = c.loop-step.invariant in
    let x = c.in-Some.ensures.steps in
    let step = c.in-Some.step.now in
    let found = c.in-Some.found.now in
    let p : Step × StepResult = (step, found) in
    let rest = zip (iter_rest (zip_first c.next.new.self))
    (iter_rest (zip_second c.next.new.self)) in
    let all : zip c.args.steps.now c.args.results.now ≡ l.0 ++ p ∷ rest =
    l.1 ∙ (λ k. l.0 ++ zip (x.0 k) (x.1 k)) in
    let links = links_in c.args.results.now in
    let same : links_of c.as_slice-links.result.now ≡ links =
    ap links_of c.as_slice-links.ensures.value ∙ c.in_ok-links.ensures in
    let materials : SideHolds links step Materials found =
    rw c.in_default.is at (subst (λ ls. IsSideRuled ls step Materials found c.in_ok-refusal.field-0)
    same c.in_ok-refusal.ensures) in
    let products : SideHolds links step Products found =
    rw c.in_default-2.is at (subst (λ ls. IsSideRuled ls step Products found
    c.in_ok-refusal-2.field-0) same c.in_ok-refusal-2.ensures) in (
      l.0 ++ p ∷ [],
      all ∙ sym (append_assoc l.0 (p ∷ []) rest),
      holds_more links l.0 p l.2 (record {
        materials = materials;
        products = products;
      }),
    )

pub returns : goal.returns
returns c =
    let l = c.loop-step.invariant in
    let over = zip_over (iter_rest (zip_first c.loop-step.step-iterator))
    (iter_rest (zip_second c.loop-step.step-iterator))
    (⊎_elim (λ x. inl x.1.0) (λ x. inr x.1.0) c.in-None.ensures.steps) in
    subst (Hold (links_in c.args.results.now))
    (sym (l.1 ∙ ap (λ ps. l.0 ++ ps) over ∙ append-nil l.0)) l.2
