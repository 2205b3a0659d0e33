use Rattle.std.proofs.Common.{refl, arith, true≢false, sym, ◌∙◌}
use Rattle.std.proofs.lemmas.Option.{slice_get_read, slice_get_within}
use Rattle.it_docs.specs.declared.rule.Rule.{Rule}
use Rattle.it_rules.proofs.Listed.{places_more}
use Rattle.it_rule_notes.specs.Met.{ClaimsPath}
use Rattle.it_rule_notes.specs.inside.JudgedRules.{judging_in}
use Rattle.it_rule_notes.proofs.judged.first_claim.Goals as goal

pub returns-then-branch : goal.returns-then-branch
returns-then-branch c =
    let here = slice_get_read c.args.judged.now.rules.now _ c.loop-index.index
    c.rule-item.result refl c.loop-index-test.true c.rule-item.is in
    record {
      is_before = omega arith;
      unclaimed = c.loop-index.invariant;
      is_rule = here;
      claims = c.in_ok-claims.ensures.0 c.if-branch.true;
    }

pub loop-index-preserved : goal.loop-index-preserved
loop-index-preserved c =
    let judging = judging_in c.args.judged.now in
    let here = slice_get_read c.args.judged.now.rules.now _ c.loop-index.index
    c.rule-item.result refl c.loop-index-test.true c.rule-item.is in
    places_more (λ (r : Rule). ¬ ClaimsPath judging r c.args.path.now)
    c.args.judged.now.rules.now c.loop-index.index c.rule-item.result
    c.loop-index.invariant here
    (λ claims. true≢false (sym (c.in_ok-claims.ensures.1 claims) ∙ c.if-branch.false))

pub returns : goal.returns
returns c = λ j rule below is. c.loop-index.invariant j rule
    (let within = slice_get_within c.args.judged.now.rules.now j rule is in omega arith) is
