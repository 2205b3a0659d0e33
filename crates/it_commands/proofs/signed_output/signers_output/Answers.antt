use Rattle.std.proofs.Common.{map, string_bytes}
use Rattle.std.proofs.lemmas.Result.{IfOk-weaker}
use Rattle.it_commands.proofs.Signers.{names_signers}
use Rattle.it_commands.proofs.signed_output.signers_output.Goals as goal

pub returns : goal.returns
returns g c =
    IfOk-weaker c.names_output.result _ _
    (λ output lists. names_signers _ (map string_bytes c.args.ids.now) c.args.envelope.now
    (map string_bytes c.in_ok-signers.signers.items) output.text.items output.status
    c.in_ok-signers.ensures
    (rw c.as_slice.ensures.value at lists)) c.names_output.ensures
