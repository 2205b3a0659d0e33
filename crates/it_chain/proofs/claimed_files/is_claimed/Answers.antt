use Rattle.std.proofs.Common.{◌≡◌, IsTrue, rules, subst}
use Rattle.it_chain.specs.ClaimedFiles.{IsClaimed}
use Rattle.it_chain.proofs.ClaimedNames.{one_step}
use Rattle.it_chain.proofs.claimed_files.is_claimed.Goals as goal

pub returns-in-Some : goal.returns-in-Some
returns-in-Some c =
    let name = c.args.name.now in
    let found = c.in-Some.found.now in
    let same : IsTrue c.eq.result → found ≡ c.args.step.now = search rules in
    let back : found ≡ c.args.step.now → IsTrue c.eq.result = search rules in (
      λ is. subst (λ step. IsClaimed step name) (same is) c.in-Some.ensures,
      λ h. back (one_step name found c.args.step.now c.in-Some.ensures h),
    )

pub returns-in-None : goal.returns-in-None
returns-in-None c = (λ is. absurd (cc is), λ h. absurd (c.in-None.ensures c.args.step.now h))
