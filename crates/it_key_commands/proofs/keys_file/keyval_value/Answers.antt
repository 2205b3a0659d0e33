use Rattle.std.proofs.Common.{◌∙◌, ap, refl}
use Rattle.serde_json.specs.Data.{object}
use Rattle.it_key_commands.proofs.KeyvalsWritten.{keyval_puts}
use Rattle.it_key_commands.proofs.keys_file.keyval_value.Goals as goal

pub returns : goal.returns
returns c =
    let key = c.args.key.now in
    c.from.ensures
    ∙ ap object (rw (
      c.in_ok-put_filled-3.ensures,
      c.as_str-3.ensures,
      c.in_ok-put_filled-2.ensures,
      c.as_str-2.ensures,
      c.in_ok-put_filled.ensures,
      c.as_str.ensures,
      c.new-members.ensures.empty,
    ) refl)
    ∙ keyval_puts key.identity key.issuer key.public
