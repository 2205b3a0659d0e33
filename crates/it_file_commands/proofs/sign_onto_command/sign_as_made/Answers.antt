use Rattle.std.proofs.Common.{rules}
use Rattle.it_file_commands.proofs.sign_onto_command.sign_as_made.Goals as goal

pub returns-in-Ok-clause-ok : goal.returns-in-Ok-clause-ok
returns-in-Ok-clause-ok g c =
    let written = c.in-Ok.ensures.ok in (
      written.0,
      written.1,
      c.in_ok-envelope.envelope.items,
      search rules,
      record {
        objects = c.in_ok-keys.keys;
        holds_keys = rw c.as_str.ensures at c.in_ok-keys.ensures.ok;
        made = c.in_ok-signature.signature.items;
        holds_made = search rules;
        is_output = search rules;
      },
      written.3,
    )

pub returns-clause-nothing : goal.returns-clause-nothing
returns-clause-nothing g c = λ other. c.in-Err.ensures.nothing (λ is.
    let wrote = c.made_onto_fault.ensures is in
    let kept = c.in_ok-made_onto_fault-in-Err.was in
    other cc)
