-- What the commands write and find, by their words and by what is at the paths in them.
use Rattle.std.specs.Prelude.{◌≡◌, ℕ, List, [], Option, IsTrue, unwrap_or}
use Rattle.std.specs.Io.KnownBytes.{Appends}
use Rattle.std.specs.List.{AllZip}
use Rattle.it_dsse.specs.Check.{Check as SignatureCheck}
use Rattle.it_dsse.specs.Panel.{panel_of}
use Rattle.it_dsse.specs.declared.ring_entry.RingEntry.{RingEntry}
use Rattle.it_commands.specs.MatchOutput.{IsMatchOutput}
use Rattle.it_json_report.specs.declared.form.ReportForm.TheVariants.{Lines, Json}
use Rattle.it_verify_command.specs.declared.output_form.OutputForm.{OutputForm}
use Rattle.it_verify_command.specs.declared.output_form.OutputForm.TheVariants.{Full, Report}
use Rattle.it_verify_command.specs.declared.output_form.OutputForm.TheVariants.{Summary}
use Rattle.it_verify_command.specs.Strictly.{HasFindings, StandsStrictly}
use Rattle.it_verify_command.specs.VerifyOutputIn.{IsVerifyOutputIn}
use Rattle.it_command_checks.specs.CommandChecks.{command_checks}
use Rattle.it_verify.specs.declared.inputs.Inputs.{Inputs}
use Rattle.it_vouched.specs.declared.vouched.Vouched.{Vouched}
use Rattle.it_outcome.specs.declared.outcome.Status.{Status}
use Rattle.it_outcome.specs.declared.outcome.Status.TheVariants.{Good}
use Rattle.it_words.specs.declared.words.Words.{Words}
use Rattle.it_words.specs.declared.words.Words.TheVariants.{Signed, Match, Pae, Sign, Digest}
use Rattle.it_words.specs.declared.words.Words.TheVariants.{Check}
use Rattle.it_words.specs.declared.words.Words.TheVariants.{Verify, Link, Statement, Payload, Key}
use Rattle.it_words.specs.declared.words.form.AskedOutput.{AskedOutput}
use Rattle.it_words.specs.declared.words.form.AskedOutput.TheVariants as asked
use Rattle.it_words.specs.declared.words.form.Form.{Form}
use Rattle.it_words.specs.declared.words.form.Form.TheVariants as forms
use Rattle.it_words.specs.declared.words.verify_words.VerifyWords.{VerifyWords}
use Rattle.it_disk.specs.Reading.{Holdings, HoldsRing}
use Rattle.it_file_commands.specs.Commands.{Checks, Encodes, ListsDigests, MakesKeys, MakesLink}
use Rattle.it_file_commands.specs.Commands.{MakesStatement, ShowsPayload, ShowsSigners}
use Rattle.it_file_commands.specs.Commands.{SignsAsAsked}
use Rattle.it_program.specs.Inputs.{AreInputs}

-- the form of the report that is asked for
abbrev pub report_asked : Form → OutputForm
report_asked forms.Lines = Report Lines
report_asked forms.Json = Report Json
report_asked forms.Full = Full

-- the form that is asked for
abbrev pub form_asked : AskedOutput → OutputForm
form_asked (asked.Report form) = report_asked form
form_asked (asked.Summary words) =
    Summary (record { verifier = words.verifier; resource = words.resource })

-- what a verification is given: its inputs, what the provenance vouches for, where a trusted root
-- is given, and the checks, which are those of the rings in the order of the words, then, where
-- they are asked for, of public keys, and then of what the provenance vouches for
pub record AreGiven (disk : Holdings) (words : VerifyWords) (inputs : Inputs)
    (vouched : Option (List Vouched)) (checks : List SignatureCheck) : Type 0 where
  pub are_inputs : AreInputs disk words inputs vouched
  pub rings : List (List RingEntry)
  pub holds_rings : AllZip (HoldsRing disk) words.rings rings
  pub checks_are : checks ≡ command_checks rings words.public_keys vouched

-- verify: the output of verifying the inputs by the checks, which names who signed by what the
-- provenance vouches for; with --strict, nothing is found in what is accepted
pub record Verifies (disk : Holdings) (words : VerifyWords) (text : List ℕ)
    (status : Status) : Type 0 where
  pub inputs : Inputs
  pub vouched : Option (List Vouched)
  pub checks : List SignatureCheck
  pub given : AreGiven disk words inputs vouched checks
  pub is_output : IsVerifyOutputIn (form_asked words.output) (panel_of checks)
      (unwrap_or vouched []) inputs text status
  pub stands : IsTrue words.strict → status ≡ Good → StandsStrictly (panel_of checks) inputs

-- verify --strict: all that was prescribed holds of the inputs, and something is found; with
-- --json=2 that is what went out
pub record FindsAgainst (disk : Holdings) (words : VerifyWords) (old new : Option (List ℕ))
    : Type 0 where
  pub is_strict : IsTrue words.strict
  pub inputs : Inputs
  pub vouched : Option (List Vouched)
  pub checks : List SignatureCheck
  pub given : AreGiven disk words inputs vouched checks
  pub text : List ℕ
  pub has_findings : HasFindings (form_asked words.output) (panel_of checks) inputs text
  pub goes_out : form_asked words.output ≡ Full → Appends old new text

-- what a command writes and finds
abbrev pub IsOutputOf : Holdings → Words → List ℕ → Status → Type 0
IsOutputOf disk (Signed words) text status = ShowsSigners disk words text status
IsOutputOf disk (Match words) text status = IsMatchOutput words.pattern words.path text status
IsOutputOf disk (Pae words) text status = Encodes disk words text status
IsOutputOf disk (Sign words) text status = SignsAsAsked disk words text status
IsOutputOf disk (Digest words) text status = ListsDigests disk words text status
IsOutputOf disk (Verify words) text status = Verifies disk words text status
IsOutputOf disk (Link words) text status = MakesLink disk words text status
IsOutputOf disk (Statement words) text status = MakesStatement disk words text status
IsOutputOf disk (Payload words) text status = ShowsPayload disk words text status
IsOutputOf disk (Key words) text status = MakesKeys disk words text status
IsOutputOf disk (Check words) text status = Checks disk words text status
