use Rattle.std.proofs.Common.{codes, refl}
use Rattle.it_findings.specs.KeyPlaces.{id_of, list_of}
use Rattle.it_check.specs.FindingPlace.{key_pointer, keyval_pointer}
use Rattle.it_check.proofs.Appended.{appended}
use Rattle.it_check.proofs.member_pointers.push_keyval.Goals as goal

pub returns : goal.returns
unfolding keyval_pointer
returns c =
    let key = c.args.key.now in
    appended c.push_text.result c.args.text.now.items c.push_key_at.new.text.items
    c.push_text.new.text.items (key_pointer c.args.form (list_of key) (id_of key))
    (codes "/keyval") (keyval_pointer c.args.form key) c.in_ok-push_key_at.ensures refl
    c.push_text.ensures
