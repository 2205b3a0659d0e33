use Rattle.it_borrowed.specs.Tree.{as_data}
use Rattle.it_findings.specs.Members.{members_of}
use Rattle.it_findings.proofs.AllMeant.{none_unread}
use Rattle.it_findings.proofs.unread.unread_members.Goals as goal

pub returns-then-have_meaning : goal.returns-then-have_meaning
returns-then-have_meaning c = rw c.new.ensures.items (none_unread c.args.place.now
    (members_of (as_data c.args.object.now)) 0 (c.have_meaning.ensures c.if-have_meaning.true))
