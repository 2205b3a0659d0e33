use Rattle.std.proofs.Common.{rules}
use Rattle.it_file_commands.proofs.signed_command.show_by_ring.Goals as goal

pub returns-clause-ok : goal.returns-clause-ok
returns-clause-ok g c =
    let shown = c.in_ok-show_by.ensures.ok in (
      shown.0,
      record {
        ring = c.in_ok-ring.ring;
        holds_ring = search rules;
        ids = _;
        same_ids = c.in_ok-ids.ensures.same;
        in_order = c.in_ok-ids.ensures.ordered;
        is_output = rw c.as_slice.ensures.value at shown.1;
      },
      shown.2,
    )
