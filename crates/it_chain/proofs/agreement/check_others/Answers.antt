use Rattle.std.proofs.Common.{◌≡◌, ◌∙◌, true}
use Rattle.it_chain.specs.First.{here}
use Rattle.it_chain.specs.declared.refusal.ChainFault.TheVariants.{Disagree}
use Rattle.it_chain.proofs.Others.{first_other}
use Rattle.it_chain.proofs.agreement.check_others.Goals as goal

pub returns-then-not-is_same : goal.returns-then-not-is_same
returns-then-not-is_same c =
    let name : c.in_ok-copy.field-0 ≡ c.args.step.now.name = c.in_ok-copy.ensures
    ∙ c.as_str.ensures in
    let id : c.in_ok-copy-2.field-0 ≡ c.other-item.result.id = c.in_ok-copy-2.ensures
    ∙ c.as_str-then-not-is_same.ensures in
    rw c.refused.ensures (
      c.other-item.result.id,
      first_other c.args.first.now c.args.others.now c.loop-other.other-index c.other-item.result
          c.loop-other-test.true c.loop-other.invariant c.other-item.is
          (λ same. let is : c.is_same.result ≡ true = c.is_same.ensures.1 same in cc),
      λ k. here (Disagree (name k) (id k)),
    )
