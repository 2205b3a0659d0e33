use Rattle.std.proofs.Common.{◌∙◌, Bor, List, ℕ, Ok, Err, option_map, subst}
use Rattle.std.proofs.lemmas.Result.{err_from_is_err_and}
use Rattle.it_base.proofs.Elements.{zip_more}
use Rattle.it_verify.specs.inside.Inspections.{IsRecord}
use Rattle.it_verify.specs.Inspections.{HasRecorded}
use Rattle.it_verify.proofs.FirstRecords.{found_first}
use Rattle.it_verify.proofs.Recording.{first_record_fails, has_recorded, record_fails}
use Rattle.it_verify.proofs.inspections.recorded_links.Goals as goal

pub returns-in_err-link : goal.returns-in_err-link
returns-in_err-link c =
    let inputs = c.args.inputs.now in
    let inspection = c.inspection-item.result in
    let found = option_map (λ (b : Bor (List ℕ)). b.now) c.copied.result in
    let e = c.in_err-link.field-0.0 in
    let is = found_first inputs c.as_slice.result.now c.in_ok-firsts.firsts inspection.name
    c.as_str-name.result.now c.copied.result c.in_ok-firsts.ensures.firsts c.as_slice.ensures
    c.as_str-name.ensures (c.copied.ensures ∙ c.get.ensures.value) in
    let fails = record_fails inputs inspection found e is
    (subst (λ n. IsRecord n found (Err e)) c.as_str-name.ensures c.in_err-link.ensures.link) in
    let p = err_from_is_err_and c.from_residual-in_err-link.result
    c.from_residual-in_err-link.ensures.1 in
    rw (p.1, p.2) (record {
      links = first_record_fails inputs c.args.inspections.now c.loop-inspection.inspection-index
          inspection c.loop-inspection.links.items e c.loop-inspection-test.true
          c.inspection-item.is
          c.loop-inspection.invariant fails;
    })

pub loop-inspection-preserved : goal.loop-inspection-preserved
loop-inspection-preserved c =
    let inputs = c.args.inputs.now in
    let inspection = c.inspection-item.result in
    let found = option_map (λ (b : Bor (List ℕ)). b.now) c.copied.result in
    let link = c.in_ok-link.link in
    let is = found_first inputs c.as_slice.result.now c.in_ok-firsts.firsts inspection.name
    c.as_str-name.result.now c.copied.result c.in_ok-firsts.ensures.firsts c.as_slice.ensures
    c.as_str-name.ensures (c.copied.ensures ∙ c.get.ensures.value) in
    let has = has_recorded inputs inspection found link is
    (subst (λ n. IsRecord n found (Ok link)) c.as_str-name.ensures c.in_ok-link.ensures.link) in
    rw c.in_ok-push.ensures.items
    (zip_more (HasRecorded inputs) c.args.inspections.now c.loop-inspection.inspection-index
    inspection c.loop-inspection.links.items link c.loop-inspection-test.true
    c.inspection-item.is c.loop-inspection.invariant has)
