use Rattle.std.proofs.Common.{◌≡◌, Some, None, append-nil, find, sym}
use Rattle.it_signer_notes.specs.Nearest.{is_near}
use Rattle.it_signer_notes.specs.inside.Lent.{lent}
use Rattle.it_signer_notes.proofs.signer_line.push_listing.Goals as goal

pub returns : goal.returns
returns c =
    let found : find (is_near c.args.identity.now) (lent c.args.keys.now) ≡ Some c.in-Some.key.now =
    sym (rw c.in-Some.is at c.nearest.ensures) in
    rw found c.push_listed.ensures

pub returns-in_default : goal.returns-in_default
returns-in_default c =
    let none : find (is_near c.args.identity.now) (lent c.args.keys.now) ≡ None =
    sym (rw c.in_default.is at c.nearest.ensures) in
    rw none (sym (append-nil c.args.text.now.items))
