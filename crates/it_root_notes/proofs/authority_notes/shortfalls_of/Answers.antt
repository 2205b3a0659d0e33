use Rattle.std.proofs.Common.{◌∙◌, arith}
use Rattle.it_root_notes.specs.AuthorityMisses.{IsAuthorityShortfall}
use Rattle.it_root_notes.proofs.Zipping.{all_zipped, zip_more}
use Rattle.it_root_notes.proofs.authority_notes.shortfalls_of.Goals as goal

pub loop-authority-preserved : goal.loop-authority-preserved
loop-authority-preserved c =
    let missed = c.in_ok-missed.ensures in
    record {
      missed = zip_more IsAuthorityShortfall c.args.authorities.now c.loop-authority.authority-index
          c.authority-item.result c.loop-authority.shortfalls.items c.push.new.self.items
          c.in_ok-missed.missed c.loop-authority-test.true c.authority-item.is c.loop-authority.invariant.missed
          missed.answer c.in_ok-push.ensures.items;
      most = missed.most ∙ c.loop-authority.invariant.most;
      grows = omega (arith, missed.grows, c.loop-authority.invariant.grows);
    }

pub returns-clause-answer : goal.returns-clause-answer
returns-clause-answer c =
    all_zipped IsAuthorityShortfall c.args.authorities.now c.loop-authority.authority-index
    c.loop-authority.shortfalls.items c.loop-authority-test.false c.loop-authority.invariant.missed
