use Rattle.it_file_commands.proofs.signed_command.show_by_keys.Goals as goal

pub returns-clause-ok : goal.returns-clause-ok
returns-clause-ok g c =
    let shown = c.in_ok-run_signed_by_keys.ensures.ok in (
      shown.0,
      record {
        objects = c.in_ok-keys.keys;
        holds_keys = c.in_ok-keys.ensures.ok;
        is_output = shown.1;
      },
      shown.2,
    )
