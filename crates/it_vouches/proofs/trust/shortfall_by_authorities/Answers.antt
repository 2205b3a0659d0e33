use Rattle.std.proofs.Common.{◌∙◌, arith, refl}
use Rattle.it_certificate.specs.Certificate.{facts_of}
use Rattle.it_issued.specs.declared.shortfall.IssueShortfall.TheVariants.{Name}
use Rattle.it_vouches.specs.IssuerMissed.{issuer_place}
use Rattle.it_vouches.specs.declared.issuer_shortfall.IssuerShortfall.TheVariants.{Issue}
use Rattle.it_vouches.specs.inside.Attested.{IsIssuedBy, IsMissedBy}
use Rattle.it_vouches.proofs.Authorities.{none_issued_by, one_missed_by}
use Rattle.it_vouches.proofs.Furthest.{furthest_all, furthest_first, furthest_next}
use Rattle.it_vouches.proofs.Loops.{any_at, none_first, none_more, not_any}
use Rattle.it_vouches.proofs.trust.shortfall_by_authorities.Goals as goal

pub loop-authority-init : goal.loop-authority-init
loop-authority-init c =
    let leaf = facts_of c.args.asked.now.leaf.now in
    record {
      none = none_first (IsIssuedBy c.args.asked.now.logs.now leaf c.args.asked.now.moment);
      furthest = furthest_first issuer_place (Issue Name) (IsMissedBy c.args.asked.now.logs.now leaf c.args.asked.now.moment);
      most = refl;
      grows = omega arith;
    }

pub loop-authority-preserved : goal.loop-authority-preserved
loop-authority-preserved c =
    let leaf = facts_of c.args.asked.now.leaf.now in
    let authority = c.authority-item.result in
    let misses = rw c.in-Some.is at c.in_ok-missed.ensures.answer in
    record {
      none = none_more (IsIssuedBy c.args.asked.now.logs.now leaf c.args.asked.now.moment) c.args.authorities.now c.loop-authority.authority-index authority
          c.loop-authority-test.true c.authority-item.is
          (none_issued_by c.args.asked.now.logs.now leaf c.args.asked.now.moment authority c.in-Some.missed misses) c.loop-authority.invariant.none;
      furthest = furthest_next issuer_place (Issue Name) (IsMissedBy c.args.asked.now.logs.now leaf c.args.asked.now.moment) c.args.authorities.now
          c.loop-authority.authority-index authority c.loop-authority.furthest c.in-Some.missed c.further-furthest.result
          c.loop-authority-test.true c.authority-item.is c.loop-authority.invariant.furthest misses
          (λ t other. one_missed_by c.args.asked.now.logs.now leaf c.args.asked.now.moment authority c.in-Some.missed t misses other)
          c.further-furthest.ensures;
      most = c.in_ok-missed.ensures.most ∙ c.loop-authority.invariant.most;
      grows = omega (arith, c.in_ok-missed.ensures.grows, c.loop-authority.invariant.grows);
    }

pub returns-in-None-clause-answer : goal.returns-in-None-clause-answer
returns-in-None-clause-answer c =
    any_at (IsIssuedBy c.args.asked.now.logs.now (facts_of c.args.asked.now.leaf.now) c.args.asked.now.moment) c.args.authorities.now
    c.loop-authority.authority-index c.authority-item.result c.loop-authority-test.true c.authority-item.is
    (rw c.in-None.is at c.in_ok-missed.ensures.answer)

pub returns-clause-answer : goal.returns-clause-answer
returns-clause-answer c =
    let leaf = facts_of c.args.asked.now.leaf.now in
    record {
      none = not_any (IsIssuedBy c.args.asked.now.logs.now leaf c.args.asked.now.moment) c.args.authorities.now c.loop-authority.authority-index
          c.loop-authority-test.false c.loop-authority.invariant.none;
      furthest = furthest_all issuer_place (Issue Name) (IsMissedBy c.args.asked.now.logs.now leaf c.args.asked.now.moment) c.args.authorities.now
          c.loop-authority.authority-index c.loop-authority.furthest c.loop-authority-test.false c.loop-authority.invariant.furthest;
    }
