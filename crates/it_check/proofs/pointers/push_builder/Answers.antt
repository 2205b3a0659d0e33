use Rattle.std.proofs.Common.{codes, refl}
use Rattle.it_findings.specs.declared.null_key.KeyList.TheVariants.{OfBuilder}
use Rattle.it_check.specs.FindingPlace.{keys_pointer}
use Rattle.it_part_notes.specs.SumLine.{numbered_form}
use Rattle.it_check.proofs.Appended.{appended}
use Rattle.it_check.proofs.pointers.push_builder.Goals as goal

pub returns : goal.returns
unfolding keys_pointer
returns c =
    appended c.push_told_number-2.result c.args.text.now.items c.push_told_number.new.text.items
    c.push_told_number-2.new.text.items
    (numbered_form (codes "/expectations/") c.args.expectation (codes "/builders/"))
    (numbered_form (codes "") c.args.builder (codes "/keys"))
    (keys_pointer (OfBuilder c.args.expectation c.args.builder)) c.in_ok-push_told_number.ensures
    refl c.push_told_number-2.ensures
