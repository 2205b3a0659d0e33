use Rattle.std.proofs.lemmas.Result.{IfOk-weaker}
use Rattle.it_key_commands.proofs.signed_by_keys_output.signer_names.Goals as goal

pub returns : goal.returns
returns c =
    IfOk-weaker c.names_of.result _ _
    (λ names are. rw (
      c.as_slice-2.ensures.value,
      c.in_ok-message.ensures,
      c.as_str-kind.ensures,
      c.as_slice.ensures,
      c.as_slice-signatures.ensures,
    ) at are) c.names_of.ensures
