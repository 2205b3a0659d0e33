use Rattle.std.proofs.Common.{⊎_elim, inl, inr}
use Rattle.it_program.proofs.Stopping.{fault_allowed, handed_on, verify_begun}
use Rattle.it_program.proofs.running.run_command.Goals as goal

pub returns-in_err-run-in-Signed-clause-stopped : goal.returns-in_err-run-in-Signed-clause-stopped
returns-in_err-run-in-Signed-clause-stopped g c =
    handed_on _ c.from_residual.result _ c.from_residual.ensures.1
    (λ other. inl (c.in_err-run-in-Signed.ensures.nothing other))

pub returns-in_err-run-in-Match-clause-stopped : goal.returns-in_err-run-in-Match-clause-stopped
returns-in_err-run-in-Match-clause-stopped g c =
    handed_on _ c.from_residual-in_err-run-in-Match.result _ c.from_residual-in_err-run-in-Match.ensures.1
    (λ other. inl (c.in_err-run-in-Match.ensures.nothing other))

pub returns-in_err-run-in-Pae-clause-stopped : goal.returns-in_err-run-in-Pae-clause-stopped
returns-in_err-run-in-Pae-clause-stopped g c =
    handed_on _ c.from_residual-in_err-run-in-Pae.result _ c.from_residual-in_err-run-in-Pae.ensures.1
    (λ other. inl (c.in_err-run-in-Pae.ensures.nothing other))

pub returns-in_err-run-in-Sign-clause-stopped : goal.returns-in_err-run-in-Sign-clause-stopped
returns-in_err-run-in-Sign-clause-stopped g c =
    handed_on _ c.from_residual-in_err-run-in-Sign.result _ c.from_residual-in_err-run-in-Sign.ensures.1
    (λ other. inl (c.in_err-run-in-Sign.ensures.nothing other))

pub returns-in_err-run-in-Digest-clause-stopped : goal.returns-in_err-run-in-Digest-clause-stopped
returns-in_err-run-in-Digest-clause-stopped g c =
    handed_on _ c.from_residual-in_err-run-in-Digest.result _ c.from_residual-in_err-run-in-Digest.ensures.1
    (λ other.
    ⊎_elim inl (λ lists. inr (rw c.in-Digest.is lists)) (c.in_err-run-in-Digest.ensures.stopped other))

pub returns-in_err-run-in-Link-clause-stopped : goal.returns-in_err-run-in-Link-clause-stopped
returns-in_err-run-in-Link-clause-stopped g c =
    handed_on _ c.from_residual-in_err-run-in-Link.result _ c.from_residual-in_err-run-in-Link.ensures.1
    (λ other. inl (c.in_err-run-in-Link.ensures.nothing other))

pub returns-in_err-run-in-Statement-clause-stopped : goal.returns-in_err-run-in-Statement-clause-stopped
returns-in_err-run-in-Statement-clause-stopped g c =
    handed_on _ c.from_residual-in_err-run-in-Statement.result _ c.from_residual-in_err-run-in-Statement.ensures.1
    (λ other. inl (c.in_err-run-in-Statement.ensures.nothing other))

pub returns-in_err-run-in-Payload-clause-stopped : goal.returns-in_err-run-in-Payload-clause-stopped
returns-in_err-run-in-Payload-clause-stopped g c =
    handed_on _ c.from_residual-in_err-run-in-Payload.result _ c.from_residual-in_err-run-in-Payload.ensures.1
    (λ other. inl (c.in_err-run-in-Payload.ensures.nothing other))

pub returns-in_err-run-in-Key-clause-stopped : goal.returns-in_err-run-in-Key-clause-stopped
returns-in_err-run-in-Key-clause-stopped g c =
    handed_on _ c.from_residual-in_err-run-in-Key.result _ c.from_residual-in_err-run-in-Key.ensures.1
    (λ other. inl (c.in_err-run-in-Key.ensures.nothing other))

pub returns-in_err-run-in-Check-clause-stopped : goal.returns-in_err-run-in-Check-clause-stopped
returns-in_err-run-in-Check-clause-stopped g c =
    handed_on _ c.from_residual-in_err-run-in-Check.result _ c.from_residual-in_err-run-in-Check.ensures.1
    (λ other. inl (c.in_err-run-in-Check.ensures.nothing other))

pub returns-in-Verify-clause-stopped : goal.returns-in-Verify-clause-stopped
returns-in-Verify-clause-stopped g c =
    rw c.in-Verify.is (verify_begun _ _ c.in-Verify.words _ _ c.run-in-Verify.result
    c.run-in-Verify.ensures.nothing c.run-in-Verify.ensures.findings c.run-in-Verify.ensures.lines)

pub returns-in-Verify-clause-findings : goal.returns-in-Verify-clause-findings
returns-in-Verify-clause-findings g c = λ is. record {
  words = c.in-Verify.words;
  is_verify = c.in-Verify.is;
  finds = c.run-in-Verify.ensures.findings is;
}

pub returns-in_err-run-in-Signed-clause-spent : goal.returns-in_err-run-in-Signed-clause-spent
returns-in_err-run-in-Signed-clause-spent g c =
    fault_allowed c.args.command.now c.from_residual.result _ c.from_residual.ensures.1

pub returns-in_err-run-in-Match-clause-spent : goal.returns-in_err-run-in-Match-clause-spent
returns-in_err-run-in-Match-clause-spent g c =
    fault_allowed c.args.command.now c.from_residual-in_err-run-in-Match.result _ c.from_residual-in_err-run-in-Match.ensures.1

pub returns-in_err-run-in-Pae-clause-spent : goal.returns-in_err-run-in-Pae-clause-spent
returns-in_err-run-in-Pae-clause-spent g c =
    fault_allowed c.args.command.now c.from_residual-in_err-run-in-Pae.result _ c.from_residual-in_err-run-in-Pae.ensures.1

pub returns-in_err-run-in-Sign-clause-spent : goal.returns-in_err-run-in-Sign-clause-spent
returns-in_err-run-in-Sign-clause-spent g c =
    fault_allowed c.args.command.now c.from_residual-in_err-run-in-Sign.result _ c.from_residual-in_err-run-in-Sign.ensures.1

pub returns-in_err-run-in-Digest-clause-spent : goal.returns-in_err-run-in-Digest-clause-spent
returns-in_err-run-in-Digest-clause-spent g c =
    fault_allowed c.args.command.now c.from_residual-in_err-run-in-Digest.result _ c.from_residual-in_err-run-in-Digest.ensures.1

pub returns-in_err-run-in-Link-clause-spent : goal.returns-in_err-run-in-Link-clause-spent
returns-in_err-run-in-Link-clause-spent g c =
    fault_allowed c.args.command.now c.from_residual-in_err-run-in-Link.result _ c.from_residual-in_err-run-in-Link.ensures.1

pub returns-in_err-run-in-Statement-clause-spent : goal.returns-in_err-run-in-Statement-clause-spent
returns-in_err-run-in-Statement-clause-spent g c =
    fault_allowed c.args.command.now c.from_residual-in_err-run-in-Statement.result _ c.from_residual-in_err-run-in-Statement.ensures.1

pub returns-in_err-run-in-Payload-clause-spent : goal.returns-in_err-run-in-Payload-clause-spent
returns-in_err-run-in-Payload-clause-spent g c =
    fault_allowed c.args.command.now c.from_residual-in_err-run-in-Payload.result _ c.from_residual-in_err-run-in-Payload.ensures.1

pub returns-in_err-run-in-Key-clause-spent : goal.returns-in_err-run-in-Key-clause-spent
returns-in_err-run-in-Key-clause-spent g c =
    fault_allowed c.args.command.now c.from_residual-in_err-run-in-Key.result _ c.from_residual-in_err-run-in-Key.ensures.1

pub returns-in_err-run-in-Check-clause-spent : goal.returns-in_err-run-in-Check-clause-spent
returns-in_err-run-in-Check-clause-spent g c =
    fault_allowed c.args.command.now c.from_residual-in_err-run-in-Check.result _ c.from_residual-in_err-run-in-Check.ensures.1

pub returns-in-Verify-clause-spent : goal.returns-in-Verify-clause-spent
returns-in-Verify-clause-spent g c = rw c.in-Verify.is c.run-in-Verify.ensures.spent
