use Rattle.std.proofs.Common.{option_map}
use Rattle.it_key_commands.proofs.IdentityWritten.{is_identity_output}
use Rattle.it_key_commands.proofs.identity_output.identity_text.Goals as goal

pub returns : goal.returns
returns c =
    is_identity_output c.args.name.now c.args.issuer.now
    (option_map (λ text. text.now) c.args.id) c.in_ok-keys.keys c.in_ok-text.text.items
    (rw (c.in_ok-vec.ensures.items, c.in_ok-object.ensures) at c.in_ok-keys.ensures)
    c.in_ok-text.ensures.form c.in_ok-text.ensures.reads_back
