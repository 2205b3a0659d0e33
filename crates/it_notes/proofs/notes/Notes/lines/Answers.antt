use Rattle.std.proofs.Common.{[]}
use Rattle.it_notes.proofs.notes.Notes.lines.Goals as goal

pub returns : goal.returns
returns c = c.in_ok-add_to.ensures [] c.new-lines.ensures
