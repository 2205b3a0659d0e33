use Rattle.std.proofs.Common.{map, string_bytes}
use Rattle.std.proofs.lemmas.Result.{IfOk-weaker}
use Rattle.it_key_commands.proofs.Naming.{names_signers}
use Rattle.it_key_commands.proofs.signed_by_keys_output.signers_output.Goals as goal

pub returns : goal.returns
returns c =
    IfOk-weaker c.names_output.result _ _
    (λ output lists. names_signers c.args.objects.now c.args.envelope.now
    (map string_bytes c.in_ok-names.names.items) output.text.items output.status
    c.in_ok-names.ensures
    (rw c.as_slice.ensures.value at lists)) c.names_output.ensures
