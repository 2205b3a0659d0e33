-- Why a command stopped, and what has gone out then (this profile's choice).
use Rattle.std.specs.Prelude.{◌≡◌, ℕ, List, Option}
use Rattle.it_disk.specs.Reading.{Holdings}
use Rattle.it_disk.specs.declared.fault.Fault.TheVariants.{Run as by_run}
use Rattle.it_words.specs.Words.{AreWordsOf}
use Rattle.it_words.specs.declared.words.Words.{Words}
use Rattle.it_words.specs.declared.words.Words.TheVariants.{Digest, Verify}
use Rattle.it_words.specs.declared.words.verify_words.VerifyWords.{VerifyWords}
use Rattle.it_file_commands.specs.Stopped.{ListsFirst}
use Rattle.it_verify_command.specs.declared.output_form.OutputForm.TheVariants.{Full}
use Rattle.it_verify_command.specs.declared.strict_fault.StrictFault.{StrictFault}
use Rattle.it_verify_command.specs.declared.strict_fault.StrictFault.TheVariants.{Findings, Run}
use Rattle.it_program.specs.Commands.{FindsAgainst, form_asked}
use Rattle.it_program.specs.declared.stop.Stop.{Stop}
use Rattle.it_program.specs.declared.stop.Stop.TheVariants.{Findings as by_findings, OfFault}
use Rattle.it_program.specs.declared.stop.Stop.TheVariants.{TooManyChecks}

-- why the program stops where a strict verification stopped
abbrev pub stop_of : StrictFault → Stop
stop_of Findings = by_findings
stop_of (Run fault) = OfFault (by_run fault)

-- something has gone out of the command: of digest such lines; of verify --strict with --json=2
-- what is found against what it would accept
abbrev pub IsBegun : Holdings → Words → (old new : Option (List ℕ)) → Type 0
IsBegun disk (Digest words) old new = ListsFirst disk words old new
IsBegun disk (Verify words) old new =
    (form_asked words.output ≡ Full) × FindsAgainst disk words old new
IsBegun disk command old new = ⊥

-- the words name such a command
pub record NamesBegun (disk : Holdings) (words : List (List ℕ)) (old new : Option (List ℕ))
    : Type 0 where
  pub command : Words
  pub are_words : AreWordsOf words command
  pub begun : IsBegun disk command old new

-- the command is verify --strict, and something is found against what it would accept; with
-- --json=2 that is what went out
pub record IsFoundAgainst (disk : Holdings) (command : Words) (old new : Option (List ℕ))
    : Type 0 where
  pub words : VerifyWords
  pub is_verify : command ≡ Verify words
  pub finds : FindsAgainst disk words old new

-- the words name such a command
pub record NamesFoundAgainst (disk : Holdings) (words : List (List ℕ))
    (old new : Option (List ℕ)) : Type 0 where
  pub command : Words
  pub are_words : AreWordsOf words command
  pub found : IsFoundAgainst disk command old new

-- a command that stops since more signatures would have to be checked than may be is verify, and
-- the number that it stops with is the one that its words allow
abbrev pub IsAllowed : Words → Stop → Type 0
IsAllowed (Verify words) (TooManyChecks spent) = spent.most ≡ words.most_checks
IsAllowed command (TooManyChecks spent) = ⊥
IsAllowed command stop = Unit {0}

-- where a run stops for that reason, the words name such a command
abbrev pub NamesAllowed : List (List ℕ) → Stop → Type 0
NamesAllowed words (TooManyChecks spent) =
    (command : Words) × AreWordsOf words command × IsAllowed command (TooManyChecks spent)
NamesAllowed words stop = Unit {0}
