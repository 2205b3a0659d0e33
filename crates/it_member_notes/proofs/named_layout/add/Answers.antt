use Rattle.std.proofs.Common.{◌∙◌, subst}
use Rattle.it_member_notes.specs.inside.NamedLayout.{HasName}
use Rattle.it_member_notes.proofs.Names.{has_added, kept_added}
use Rattle.it_member_notes.proofs.named_layout.add.Goals as goal

pub returns-clause-has : goal.returns-clause-has
returns-clause-has c =
    subst (HasName c.insert.new.self) (c.in_ok-from_str.ensures.ok ∙ c.as_str.ensures)
    (rw c.in_ok-insert.ensures.ok (has_added c.args.names.now _ _))

pub returns-clause-kept : goal.returns-clause-kept
returns-clause-kept c =
    rw c.in_ok-insert.ensures.ok (kept_added c.args.names.now _ _)
