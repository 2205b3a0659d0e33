use Rattle.std.proofs.Common.{map}
use Rattle.it_part_notes.specs.Members.{shown}
use Rattle.it_part_notes.proofs.NoDocument.{no_document}
use Rattle.it_part_notes.proofs.problem.part_note.Goals as goal

pub returns-in_default : goal.returns-in_default
returns-in_default c =
    no_document c.args.text.now c.args.place (map shown c.args.members.now) c.in_ok-flaw.flaw
    c.no_document.result (rw c.in_default.is at c.document.ensures.document) (rw c.bytes.ensures at c.in_ok-flaw.ensures)
    c.no_document.ensures
