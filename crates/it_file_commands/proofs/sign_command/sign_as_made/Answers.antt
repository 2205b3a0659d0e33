use Rattle.std.proofs.Common.{rules}
use Rattle.it_file_commands.proofs.sign_command.sign_as_made.Goals as goal

pub returns-in-Ok-clause-ok : goal.returns-in-Ok-clause-ok
returns-in-Ok-clause-ok g c =
    let written = c.in-Ok.ensures.ok in (
      written.0,
      written.1,
      record {
        objects = c.in_ok-keys.keys;
        holds_keys = search rules;
        made = c.in_ok-signature.signature.items;
        holds_made = search rules;
        is_output = search rules;
      },
      written.3,
    )
