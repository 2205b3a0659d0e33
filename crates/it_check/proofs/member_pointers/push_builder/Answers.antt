use Rattle.std.proofs.Common.{codes, decimal, refl}
use Rattle.it_check.specs.FindingPlace.{builder_pointer}
use Rattle.it_part_notes.specs.SumLine.{numbered_form}
use Rattle.it_check.proofs.Appended.{appended}
use Rattle.it_check.proofs.member_pointers.push_builder.Goals as goal

pub returns : goal.returns
unfolding builder_pointer
returns c =
    appended c.push_number.result c.args.text.now.items c.push_told_number.new.text.items
    c.push_number.new.text.items
    (numbered_form (codes "/expectations/") c.args.expectation (codes "/builders/"))
    (decimal c.args.builder) (builder_pointer c.args.expectation c.args.builder)
    c.in_ok-push_told_number.ensures refl c.push_number.ensures
