use Rattle.std.proofs.Common.{◌∙◌, subst}
use Rattle.std.specs.Result.{IfOk}
use Rattle.it_findings.specs.SharedKeys.{SharedWith}
use Rattle.it_findings.proofs.shared_keys.shared_in.Goals as goal

pub returns-in-Some : goal.returns-in-Some
returns-in-Some c =
    subst (λ first. IfOk c.shared_with.result
    (λ found. SharedWith c.args.at.now first found.items))
    (c.in-Some.ensures c.args.at.now.key (c.as_str.ensures.value ∙ c.in_ok-name.ensures))
    c.shared_with.ensures

pub returns : goal.returns
returns c =
    subst (λ first. SharedWith c.args.at.now first c.new.result.items)
    (c.in-None.ensures c.args.at.now.key (c.as_str.ensures.value ∙ c.in_ok-name.ensures))
    c.new.ensures.items
