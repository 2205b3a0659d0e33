use Rattle.std.proofs.Common.{ap, Err}
use Rattle.it_program.proofs.Stopping.{found_by, kept_by, strict_unspent, told_out}
use Rattle.it_program.proofs.verify_command.verify_as_asked.Goals as goal

pub returns-in_err-verify_strictly-clause-findings : goal.returns-in_err-verify_strictly-clause-findings
returns-in_err-verify_strictly-clause-findings g c = λ is.
    let fault = c.in_err-verify_strictly.field-0.0 in
    let told = c.in_err-verify_strictly.ensures.findings
    (ap Err (found_by c.from_residual.result fault c.from_residual.ensures.1 is)) in (
      c.if-strict.true,
      told.0,
      told.1,
      told_out c.args.asked.now.form.now (g.W.Write.contents c.args.out.now)
          (g.W.Write.contents c.verify_strictly.new.out) (g.N.Write.contents c.args.notes.now)
          (g.N.Write.contents c.verify_strictly.new.notes) told.0 told.2,
    )

pub returns-in_err-verify_strictly-clause-nothing : goal.returns-in_err-verify_strictly-clause-nothing
returns-in_err-verify_strictly-clause-nothing g c =
    kept_by _ c.from_residual.result c.in_err-verify_strictly.field-0.0 c.from_residual.ensures.1
    c.in_err-verify_strictly.ensures.kept

pub returns-in_err-verify_strictly-clause-lines : goal.returns-in_err-verify_strictly-clause-lines
returns-in_err-verify_strictly-clause-lines g c = λ is.
    let fault = c.in_err-verify_strictly.field-0.0 in
    c.in_err-verify_strictly.ensures.lines
    (ap Err (found_by c.from_residual.result fault c.from_residual.ensures.1 is))

pub returns-in_err-verify_strictly-clause-unspent : goal.returns-in_err-verify_strictly-clause-unspent
returns-in_err-verify_strictly-clause-unspent g c =
    strict_unspent c.from_residual.result c.in_err-verify_strictly.field-0.0 c.from_residual.ensures.1
