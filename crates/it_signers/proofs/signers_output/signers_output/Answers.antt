use Rattle.std.proofs.Common.{map, string_bytes}
use Rattle.std.proofs.lemmas.Result.{IfOk-weaker}
use Rattle.it_signers.proofs.Naming.{names_signers}
use Rattle.it_signers.proofs.signers_output.signers_output.Goals as goal

pub returns : goal.returns
returns g c =
    IfOk-weaker c.names_output.result _ _
    (λ output lists. names_signers (g.C.Checks.panel c.args.checks.now) c.args.objects.now
    c.args.envelope.now (map string_bytes c.in_ok-names.names.items) output.text.items
    output.status c.in_ok-names.ensures
    (rw c.as_slice.ensures.value at lists)) c.names_output.ensures
