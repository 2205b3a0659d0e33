use Rattle.std.proofs.Common.{◌≡◌, ◌≤◌, take}
use Rattle.it_certificate.specs.Certificate.{facts_of}
use Rattle.it_issued.specs.declared.shortfall.IssueShortfall.TheVariants.{Name}
use Rattle.it_vouches.specs.Furthest.{IsFurthest, IsMissedByOne}
use Rattle.it_vouches.specs.IssuerMissed.{issuer_place}
use Rattle.it_vouches.specs.declared.issuer_shortfall.IssuerShortfall.TheVariants.{Issue}
use Rattle.it_vouches.specs.inside.Attested.{IsIssuedBy, IsMissedBy}
use Rattle.it_vouches.proofs.Loops.{NoneIn}
use Rattle.it_vouches.proofs.trust.shortfall_by_authorities.Given as goal

-- none of the authorities so far issued the leaf, and this is the furthest condition that it
-- misses; the budget is the one that was given
abbrev pub invariant-loop-authority : goal.invariant-loop-authority
invariant-loop-authority l =
    let asked = l.asked in
    record {
      none : NoneIn (IsIssuedBy asked.logs.now (facts_of asked.leaf.now) asked.moment) (take l.authority-index l.authorities);
      furthest : IsFurthest issuer_place
          (IsMissedByOne (Issue Name) (IsMissedBy asked.logs.now (facts_of asked.leaf.now) asked.moment)
          (take l.authority-index l.authorities)) l.furthest;
      most : l.budget.most ≡ l.fn.budget.most;
      grows : l.fn.budget.checked ≤ l.budget.checked;
    }
