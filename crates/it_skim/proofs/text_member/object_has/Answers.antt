use Rattle.std.proofs.Common.{false, subst, sym}
use Rattle.std.specs.Prelude.{unwrap_or}
use Rattle.it_skim.specs.inside.Reading.{IsRead}
use Rattle.it_skim.proofs.Objects.{no_object, object_read}
use Rattle.it_skim.proofs.text_member.object_has.Goals as goal

pub returns-then-not-begins_object : goal.returns-then-not-begins_object
returns-then-not-begins_object c =
    no_object c.args.reader.now c.begins_object.new.reader c.args.name.now c.args.wanted.now
    (rw c.if-not-begins_object.true at c.begins_object.ensures)

pub returns : goal.returns
returns c =
    let name = c.args.name.now in
    let wanted = c.args.wanted.now in
    let new = c.members_have.new.reader in
    rw c.unwrap_or.ensures
    (subst (λ ts. IsRead ts new name wanted (unwrap_or c.in_ok-has.has false))
    (sym (rw c.if-not-begins_object.false at c.begins_object.ensures))
    (object_read c.begins_object.new.reader new name wanted c.in_ok-has.has c.in_ok-has.ensures))
