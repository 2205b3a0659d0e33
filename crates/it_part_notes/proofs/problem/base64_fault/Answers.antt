use Rattle.it_borrowed.specs.Tree.{as_data}
use Rattle.it_base.specs.Document.{member_at}
use Rattle.it_part_notes.specs.Members.{shown}
use Rattle.it_part_notes.proofs.Base64.{unfit_value}
use Rattle.it_part_notes.proofs.problem.base64_fault.Goals as goal
use Rattle.it_part_notes.proofs.problem.base64_fault.Goals.{in-Some, in-None}

pub returns : goal.returns
returns c = elim c.match-branch-2.branch [
  | in-Some w ↦ rw w.result-is tt
  | in-None w ↦
      rw (w.result-is, c.requires.kind)
      (unfit_value (member_at (shown c.args.looked).name (as_data c.args.object.now))
      c.requires.there (rw (w.in-None.is, c.name.ensures) at c.in_ok-base64_part.ensures))
]
