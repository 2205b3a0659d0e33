use Rattle.std.proofs.Common.{codes, refl}
use Rattle.it_check.specs.FindingPlace.{expectation_pointer, parameter_pointer, token_form}
use Rattle.it_check.proofs.Appended.{appended}
use Rattle.it_check.proofs.pointers.push_parameter_at.Goals as goal

pub returns : goal.returns
unfolding parameter_pointer
returns c =
    let name = c.args.name.now in
    appended c.push_token.result c.args.text.now.items c.push_expectation.new.text.items
    c.push_token.new.text.items (expectation_pointer c.args.place (codes "/parameters/"))
    (token_form c.args.form name) (parameter_pointer c.args.form c.args.place name)
    c.in_ok-push_expectation.ensures refl (rw c.as_str.ensures at c.push_token.ensures)
