use Rattle.std.proofs.Common.{Result, Ok, Err, IfOk, map}
use Rattle.std.specs.String.{string_bytes}
use Rattle.std.specs.Io.KnownBytes.{Appends}
use Rattle.it_words.specs.Words.{AreWordsOf}
use Rattle.it_program.specs.Commands.{IsOutputOf}
use Rattle.it_program.proofs.Stopping.{fault_names, named_allowed, named_begun}
use Rattle.it_program.proofs.running.run_words.Goals as goal

-- what is told of a command is told of some command
of_some : {S E C T : Type 0} (P : C → Type 0) (Q : C → T → S → Type 0) (Z : T → Type 0) (x : C)
    (r : Result S E) → P x → IfOk r (λ s. (t : T) × Q x t s × Z t)
    → IfOk r (λ s. (y : C) × (t : T) × P y × Q y t s × Z t)
of_some P Q Z x (Ok s) named told = (x, told.0, named, told.1, told.2)
of_some P Q Z x (Err e) named told = tt

pub returns : goal.returns
returns g c =
    let disk = g.R.Disk.holdings c.args.rt.now in
    let words = map string_bytes c.args.words.now in
    let command = c.in_ok-command.command in
    let named = c.in_ok-command.ensures.ok in
    let old = g.W.Write.contents c.args.out.now in
    let new = g.W.Write.contents c.run_command.new.out in
    record {
      findings = λ is. record {
        command = command;
        are_words = named;
        found = c.run_command.ensures.findings is;
      };
      ok = of_some (AreWordsOf words) (IsOutputOf disk) (Appends old new) command
          c.run_command.result named c.run_command.ensures.ok;
      spent = named_allowed words command c.run_command.result named c.run_command.ensures.spent;
      stopped = named_begun _ _ disk command old new words c.run_command.result named
          c.run_command.ensures.stopped;
    }

pub returns-in_err-command-clause-spent : goal.returns-in_err-command-clause-spent
returns-in_err-command-clause-spent g c =
    fault_names (map string_bytes c.args.words.now) c.from_residual.result _
    c.from_residual.ensures.1
