use Rattle.std.proofs.Common.{rules}
use Rattle.it_file_commands.proofs.signed_trusted.run.Goals as goal

pub returns-clause-ok : goal.returns-clause-ok
returns-clause-ok g c =
    let shown = c.in_ok-status.ensures.ok in (
      shown.0,
      record {
        objects = c.in_ok-keys.keys;
        holds_keys = search rules;
        root = c.in_ok-root.root;
        holds_root = search rules;
        vouched = c.in_ok-vouched.field-0.vouched;
        are_vouched = rw c.in_ok-vouched.ensures.judged at c.of_one-counted.ensures.vouched;
        is_output = rw c.checks_with-checks.ensures at shown.1;
      },
      shown.2,
    )

pub returns-clause-noted : goal.returns-clause-noted
returns-clause-noted g c = record {
  root = c.in_ok-root.root;
  holds_root = search rules;
  silent = c.in_ok-vouched.field-0.silent;
  are_silent = rw c.in_ok-vouched.ensures.judged at c.of_one-counted.ensures.silent;
  begins = rw c.as_slice.ensures at c.note_silent.ensures;
}
