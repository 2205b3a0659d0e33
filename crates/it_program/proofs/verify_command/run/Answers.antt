use Rattle.std.proofs.Common.{◌≡◌, ◌≢◌, ◌∙◌, Err, IfOk, IsErrOf, Ok, Result, inl, inr, sym}
use Rattle.it_disk.specs.declared.fault.Fault.TheVariants.{Run}
use Rattle.it_outcome.specs.declared.outcome.RunFault.TheVariants.{OutOfMemory, Write}
use Rattle.it_program.specs.declared.spent.Spent.{Spent}
use Rattle.it_program.specs.declared.stop.Stop.{Stop}
use Rattle.it_program.specs.declared.stop.Stop.TheVariants.{Findings, OfFault, TooManyChecks}
use Rattle.it_program.proofs.Stopping.{told_allowed}
use Rattle.it_program.proofs.verify_command.run.Goals as goal

-- what is told of an answer in two parts
both : {S E : Type 0} (P Q R : S → Type 0) (r : Result S E) → ((s : S) → P s → Q s → R s)
    → IfOk r P → IfOk r Q → IfOk r R
both P Q R (Ok s) join p q = join s p q
both P Q R (Err e) join p q = tt

-- what is told of too many checks is told of no findings
never : {S : Type 0} (r : Result S Stop) (spent : Spent) → r ≡ Err (TooManyChecks spent)
    → IsErrOf r Findings → ⊥
never r spent e f = cc (e, f)

-- lack of memory is no fault of the output, and nothing that was found
no_write : OfFault (Run OutOfMemory) ≢ OfFault (Run Write)
no_write = λ same. cc

no_findings : OfFault (Run OutOfMemory) ≢ Findings
no_findings = λ same. cc

pub returns-clause-ok : goal.returns-clause-ok
returns-clause-ok g c = elim c.told_spent.ensures [
  | inl same ↦ rw same (both _ _ _ c.verify_as_asked-outcome.result (λ status told stands. (
    told.0,
    record {
      inputs = c.in_ok-given.given.inputs;
      vouched = c.in_ok-given.given.checks.vouched;
      checks = _;
      given = c.in_ok-given.ensures.given;
      is_output = rw (c.in_ok-asked.ensures.form, c.vouched_in.ensures) at told.1;
      stands = rw c.in_ok-asked.ensures.strict at stands;
    },
    told.2,
  )) c.verify_as_asked-outcome.ensures.ok c.verify_as_asked-outcome.ensures.stands)
  | inr spent ↦ rw spent.3 tt
]

pub returns-clause-nothing : goal.returns-clause-nothing
returns-clause-nothing g c = elim c.told_spent.ensures [
  | inl same ↦ rw same c.verify_as_asked-outcome.ensures.nothing
  | inr spent ↦ rw spent.3 (λ other found.
      (rw spent.0 at c.verify_as_asked-outcome.ensures.nothing) no_write no_findings)
]

pub returns-clause-findings : goal.returns-clause-findings
returns-clause-findings g c = λ is. elim c.told_spent.ensures [
  | inl same ↦ (let told = c.verify_as_asked-outcome.ensures.findings (sym same ∙ is) in
      record {
        is_strict = rw c.in_ok-asked.ensures.strict at told.0;
        inputs = c.in_ok-given.given.inputs;
        vouched = c.in_ok-given.given.checks.vouched;
        checks = _;
        given = c.in_ok-given.ensures.given;
        text = told.1;
        has_findings = rw c.in_ok-asked.ensures.form at told.2;
        goes_out = rw c.in_ok-asked.ensures.form at told.3;
      })
  | inr spent ↦ absurd (never _ _ spent.3 is)
]

pub returns-clause-lines : goal.returns-clause-lines
returns-clause-lines g c = λ is. elim c.told_spent.ensures [
  | inl same ↦ rw c.in_ok-asked.ensures.form at (c.verify_as_asked-outcome.ensures.lines (sym same ∙ is))
  | inr spent ↦ λ other. absurd (never _ _ spent.3 is)
]

pub returns-clause-spent : goal.returns-clause-spent
returns-clause-spent g c = elim c.told_spent.ensures [
  | inl same ↦ rw same (told_allowed c.args.words.now c.verify_as_asked-outcome.result
      c.verify_as_asked-outcome.ensures.unspent)
  | inr spent ↦ rw spent.3 spent.2
]
