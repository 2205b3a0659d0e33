use Rattle.std.proofs.Common.{◌∙◌, arith, refl}
use Rattle.it_vouches.specs.inside.Usable.{CannotBeUsed, IsRead}
use Rattle.it_vouches.proofs.Found.{all_found, found_at}
use Rattle.it_vouches.proofs.Usable.{read_is}
use Rattle.it_vouches.proofs.trust.usable_authorities.Goals as goal

pub loop-authority-init : goal.loop-authority-init
loop-authority-init c = record { usable = c.new-usable.ensures.items; most = refl; grows = omega arith }

pub loop-authority-preserved : goal.loop-authority-preserved
loop-authority-preserved c =
    let read = c.in_ok-read_authority.ensures in
    record {
      usable = found_at CannotBeUsed IsRead c.args.listed.now c.loop-authority.authority-index c.authority-item.result
          c.loop-authority.usable.items c.push_some.new.values.items c.in_ok-read_authority.field-0 c.loop-authority-test.true
          c.authority-item.is c.loop-authority.invariant.usable
          (read_is c.authority-item.result c.in_ok-read_authority.field-0 read.answer) c.in_ok-push_some.ensures;
      most = read.most ∙ c.loop-authority.invariant.most;
      grows = omega (arith, read.grows, c.loop-authority.invariant.grows);
    }

pub returns-clause-answer : goal.returns-clause-answer
returns-clause-answer c =
    all_found CannotBeUsed IsRead c.args.listed.now c.loop-authority.authority-index c.loop-authority.usable.items
    c.loop-authority-test.false c.loop-authority.invariant.usable
