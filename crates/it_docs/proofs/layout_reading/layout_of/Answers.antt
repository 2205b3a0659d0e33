use Rattle.std.proofs.Common.{rules}
use Rattle.std.proofs.lemmas.Result.{err_from_is_err_and}
use Rattle.it_borrowed.specs.Tree.{as_data}
use Rattle.it_docs.proofs.LayoutParts.{IsHead, steps_fault, inspections_fault, duplicate_fault}
use Rattle.it_docs.proofs.layout_reading.layout_of.Goals as goal

pub returns-in_err-steps : goal.returns-in_err-steps
returns-in_err-steps c =
    let d = as_data c.args.document.now in
    let p = err_from_is_err_and c.from_residual-in_err-steps.result
    c.from_residual-in_err-steps.ensures.1 in
    let head : IsHead d = record {
      json = search rules;
      wrong_type = search rules;
      expires = (c.in-Some.expires, c.in-Some.ensures);
      keys = (c.in-Some-2.keys, rw (c.in-Some-2.is, c.new-no_keys.ensures) at c.in_ok-keys.ensures);
    } in
    rw (p.1, p.2) (steps_fault d head c.in_err-steps.field-0.0 c.in_err-steps.ensures)

pub returns-in_err-inspections : goal.returns-in_err-inspections
returns-in_err-inspections c =
    let d = as_data c.args.document.now in
    let p = err_from_is_err_and c.from_residual-in_err-inspections.result
    c.from_residual-in_err-inspections.ensures.1 in
    let head : IsHead d = record {
      json = search rules;
      wrong_type = search rules;
      expires = (c.in-Some.expires, c.in-Some.ensures);
      keys = (c.in-Some-2.keys, rw (c.in-Some-2.is, c.new-no_keys.ensures) at c.in_ok-keys.ensures);
    } in
    rw (p.1, p.2) (inspections_fault d head c.in_ok-steps.steps c.in_ok-steps.ensures
    c.in_err-inspections.field-0.0 c.in_err-inspections.ensures)

pub returns-in-Some-3 : goal.returns-in-Some-3
returns-in-Some-3 c =
    let d = as_data c.args.document.now in
    let head : IsHead d = record {
      json = search rules;
      wrong_type = search rules;
      expires = (c.in-Some.expires, c.in-Some.ensures);
      keys = (c.in-Some-2.keys, rw (c.in-Some-2.is, c.new-no_keys.ensures) at c.in_ok-keys.ensures);
    } in
    let repeat = rw (c.in-Some-3.is, c.as_slice.ensures, c.as_slice-2.ensures) at
    c.in_ok-name.ensures in
    duplicate_fault d head c.in_ok-steps.steps c.in_ok-inspections.inspections c.in_ok-steps.ensures
    c.in_ok-inspections.ensures c.in-Some-3.name repeat
