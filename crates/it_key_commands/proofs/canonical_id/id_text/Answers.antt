use Rattle.std.proofs.Common.{refl}
use Rattle.it_key_commands.specs.KeyId.{id_text}
use Rattle.it_key_commands.proofs.canonical_id.id_text.Goals as goal

pub returns : goal.returns
unfolding id_text
returns c =
    rw (
      c.in_ok-push_str-4.ensures,
      c.in_ok-push_quoted-2.ensures,
      c.as_str-2.ensures,
      c.in_ok-push_str-3.ensures,
      c.in_ok-push_keyval.ensures,
      c.in_ok-push_str-2.ensures,
      c.in_ok-push_quoted.ensures,
      c.as_str.ensures,
      c.in_ok-push_str.ensures,
      c.new-text.ensures.items,
    ) refl
