use Rattle.std.proofs.Common.{codes, refl}
use Rattle.it_findings.specs.declared.member_finding.MemberFinding.TheVariants.{PrivateKey}
use Rattle.it_check.specs.FindingPlace.{keyval_pointer, member_pointer}
use Rattle.it_check.proofs.Appended.{appended}
use Rattle.it_check.proofs.member_pointers.push_private.Goals as goal

pub returns : goal.returns
unfolding member_pointer
returns c =
    let key = c.args.key.now in
    appended c.push_text.result c.args.text.now.items c.push_keyval.new.text.items
    c.push_text.new.text.items (keyval_pointer c.args.form key) (codes "/private")
    (member_pointer c.args.form (PrivateKey key)) c.in_ok-push_keyval.ensures refl
    c.push_text.ensures
