use Rattle.std.proofs.Common.{rules}
use Rattle.it_file_commands.proofs.key_command.run_of_files.Goals as goal

pub returns-in-Ok-clause-ok : goal.returns-in-Ok-clause-ok
returns-in-Ok-clause-ok g c =
    let written = c.in-Ok.ensures.ok in (
      written.1,
      record {
        files = c.in_ok-files.files.items;
        holds_files = search rules;
        is_output = rw (
          c.as_slice-2.ensures.value,
          c.in_ok-slices.ensures,
          c.as_slice.ensures.value,
        ) at written.2;
        status_is = written.0;
      },
      written.3,
    )
