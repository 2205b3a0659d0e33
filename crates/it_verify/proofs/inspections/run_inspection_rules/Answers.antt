use Rattle.std.proofs.Common.{◌≡◌, ◌∙◌, [], ◌∷◌, ◌++◌, zip, inl, inr, ⊎_elim, sym, ap, subst}
use Rattle.std.proofs.Common.{append_assoc, append-nil}
use Rattle.std.specs.Iterator.Adapters.{zip_first, zip_second}
use Rattle.std.specs.Slice.Iter.{iter_rest}
use Rattle.std.proofs.lemmas.Result.{err_from_is_err_and}
use Rattle.it_docs.specs.declared.link.Link.{Link}
use Rattle.it_docs.specs.declared.rule.Side.TheVariants.{Materials, Products}
use Rattle.it_docs.specs.declared.step.Inspection.{Inspection}
use Rattle.it_rules.specs.Item.{links_of}
use Rattle.it_rules.specs.Rules.{RulesHold}
use Rattle.it_verify.specs.inside.Inspections.{SideFails}
use Rattle.it_verify.specs.Inspections.{recorded_in}
use Rattle.it_verify.specs.inside.Failures.{RefusedAs}
use Rattle.it_verify.proofs.RulesJudged.{Hold, both_hold, hold_more, materials_fail, products_fail}
use Rattle.it_verify.proofs.RulesJudged.{zip_over}
use Rattle.it_verify.proofs.inspections.run_inspection_rules.Goals as goal

pub returns-in_err-run_side : goal.returns-in_err-run_side
returns-in_err-run_side c =
    let l = c.loop-inspection.invariant in
    let x = c.in-Some.ensures.steps in
    let inspection = c.in-Some.inspection.now in
    let link = c.in-Some.link.now in
    let p : Inspection × Link = (inspection, link) in
    let rest = zip (iter_rest (zip_first c.next.new.self))
    (iter_rest (zip_second c.next.new.self)) in
    let pairs = zip c.args.inspections.now c.args.recorded.now in
    let all : pairs ≡ l.0 ++ p ∷ rest = l.1 ∙ (λ k. l.0 ++ zip (x.0 k) (x.1 k)) in
    let links = links_of c.args.links.now in
    let e = c.in_err-run_side.field-0.0 in
    let fails = subst (λ n. RefusedAs
    (SideFails links n Materials inspection.expected_materials link) e) c.as_str-name.ensures
    (subst (λ rules. RefusedAs (SideFails links c.as_str-name.result.now Materials rules link) e)
    c.as_slice-materials.ensures c.in_err-run_side.ensures.rules) in
    let q = err_from_is_err_and c.from_residual.result c.from_residual.ensures.1 in
    rw (q.1, q.2) (record {
      rules = materials_fail links pairs l.0 rest inspection link all l.2 e fails;
    })

pub loop-inspection-preserved : goal.loop-inspection-preserved
loop-inspection-preserved c =
    let l = c.loop-inspection.invariant in
    let x = c.in-Some.ensures.steps in
    let inspection = c.in-Some.inspection.now in
    let link = c.in-Some.link.now in
    let p : Inspection × Link = (inspection, link) in
    let rest = zip (iter_rest (zip_first c.next.new.self))
    (iter_rest (zip_second c.next.new.self)) in
    let pairs = zip c.args.inspections.now c.args.recorded.now in
    let all : pairs ≡ l.0 ++ p ∷ rest = l.1 ∙ (λ k. l.0 ++ zip (x.0 k) (x.1 k)) in
    let links = links_of c.args.links.now in
    let materials = subst (λ rules. RulesHold rules Materials (recorded_in link) links)
    c.as_slice-materials.ensures c.in_ok-run_side.ensures.rules in
    let products = subst (λ rules. RulesHold rules Products (recorded_in link) links)
    c.as_slice-products.ensures c.in_ok-run_side-2.ensures.rules in (
      l.0 ++ p ∷ [],
      all ∙ sym (append_assoc l.0 (p ∷ []) rest),
      hold_more links l.0 p l.2
          (both_hold links inspection link materials products),
    )

pub returns-in_err-run_side-2 : goal.returns-in_err-run_side-2
returns-in_err-run_side-2 c =
    let l = c.loop-inspection.invariant in
    let x = c.in-Some.ensures.steps in
    let inspection = c.in-Some.inspection.now in
    let link = c.in-Some.link.now in
    let p : Inspection × Link = (inspection, link) in
    let rest = zip (iter_rest (zip_first c.next.new.self))
    (iter_rest (zip_second c.next.new.self)) in
    let pairs = zip c.args.inspections.now c.args.recorded.now in
    let all : pairs ≡ l.0 ++ p ∷ rest = l.1 ∙ (λ k. l.0 ++ zip (x.0 k) (x.1 k)) in
    let links = links_of c.args.links.now in
    let e = c.in_err-run_side-2.field-0.0 in
    let materials = subst (λ rules. RulesHold rules Materials (recorded_in link) links)
    c.as_slice-materials.ensures c.in_ok-run_side.ensures.rules in
    let fails = subst (λ n. RefusedAs (SideFails links n Products inspection.expected_products link)
    e) c.as_str-name.ensures
    (subst (λ rules. RefusedAs (SideFails links c.as_str-name.result.now Products rules link) e)
    c.as_slice-products.ensures c.in_err-run_side-2.ensures.rules) in
    let q = err_from_is_err_and c.from_residual-in_err-run_side-2.result
    c.from_residual-in_err-run_side-2.ensures.1 in
    rw (q.1, q.2) (record {
      rules = products_fail links pairs l.0 rest inspection link all l.2 e materials fails;
    })

pub returns : goal.returns
returns c =
    let l = c.loop-inspection.invariant in
    let over = zip_over (iter_rest (zip_first c.loop-inspection.inspection-iterator))
    (iter_rest (zip_second c.loop-inspection.inspection-iterator))
    (⊎_elim (λ x. inl x.1.0) (λ x. inr x.1.0) c.in-None.ensures.steps) in
    record {
      rules = subst (Hold (links_of c.args.links.now))
          (sym (l.1 ∙ ap (λ ps. l.0 ++ ps) over ∙ append-nil l.0)) l.2;
    }
