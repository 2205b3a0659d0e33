use Rattle.std.proofs.Common.{◌≡◌, List, ℕ, Option, Some, None, Result, Ok, Err, IfOk, rules}
use Rattle.it_disk.specs.Reading.{Holdings, IsGiven}
use Rattle.it_making.specs.StatementOutput.{IsStatementOutput}
use Rattle.it_outcome.specs.declared.outcome.Status.{Status}
use Rattle.it_outcome.specs.declared.outcome.Status.TheVariants.{Good}
use Rattle.it_words.specs.declared.words.statement_words.StatementWords.{StatementWords}
use Rattle.it_file_commands.specs.Commands.{MakesStatement}
use Rattle.it_file_commands.proofs.statement_command.run.Goals as goal

-- the Statement of what was read
made_of : {E : Type 0} (disk : Holdings) (words : StatementWords) (sums : List ℕ)
    (given : Option (List ℕ)) (Goes : List ℕ → Type 0) (result : Result Status E)
    → disk.file words.sums sums → IsGiven disk.file words.parameters given
    → IfOk result (λ status. (status ≡ Good) × (text : List ℕ)
    × IsStatementOutput sums words.build_type words.builder given text × Goes text)
    → IfOk result (λ status. (text : List ℕ) × MakesStatement disk words text status × Goes text)
made_of disk words sums given Goes (Ok status) holds is_given made = (
  made.1,
  record {
    sums = sums;
    holds_sums = holds;
    parameters = given;
    are_given = is_given;
    is_output = made.2;
    status_is = made.0;
  },
  made.3,
)
made_of disk words sums given Goes (Err e) holds is_given made = tt

pub returns-in-None-clause-ok : goal.returns-in-None-clause-ok
returns-in-None-clause-ok g c =
    let disk = g.R.Disk.holdings c.args.rt.now in
    let words = c.args.words.now in
    let sums = c.as_slice.result.now in
    let holds : disk.file words.sums sums = search rules in
    let given : IsGiven disk.file words.parameters None = search rules in
    made_of disk words sums None _ c.state.result holds given c.state.ensures.ok

pub returns-clause-ok : goal.returns-clause-ok
returns-clause-ok g c =
    let disk = g.R.Disk.holdings c.args.rt.now in
    let words = c.args.words.now in
    let sums = c.as_slice-in-Some-2.result.now in
    let parameters = c.as_slice-in-Some.result.now in
    let holds : disk.file words.sums sums = search rules in
    let given : IsGiven disk.file words.parameters (Some parameters) = search rules in
    made_of disk words sums (Some parameters) _ c.state-in-Some.result holds given
    c.state-in-Some.ensures.ok
