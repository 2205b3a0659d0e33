use Rattle.std.proofs.Common.{◌≡◌, ◌∙◌, true, false, sym}
use Rattle.itv_cases.proofs.cases.difference.Goals as goal

pub returns-then-agrees : goal.returns-then-agrees
returns-then-agrees c = record {
  case = c.in_ok-case.case;
  is_case = c.in_ok-case.ensures;
  run = c.in_ok-run.run';
  is_run = c.in_ok-run.ensures;
  none_where = c.agrees.ensures.equal.0 c.if-agrees.true;
}

pub returns : goal.returns
returns c = record {
  case = c.in_ok-case.case;
  is_case = c.in_ok-case.ensures;
  run = c.in_ok-run.run';
  is_run = c.in_ok-run.ensures;
  none_where = λ agrees.
      let clash : true ≡ false = sym (c.agrees.ensures.equal.1 agrees) ∙ c.if-agrees.false in
      cc;
}
