-- What has gone out where a command stops.
use Rattle.std.proofs.Common.{◌⊎◌, ⊎_elim, inl, inr, ℕ, List, Option, Result, Ok, Err, IfErr}
use Rattle.std.proofs.Common.{◌≡◌, ◌≢◌, ◌∙◌, IsErrOf, ap, refl, subst, sym}
use Rattle.std.specs.Io.KnownBytes.{Appends}
use Rattle.std.specs.Result.{IsErrAnd}
use Rattle.it_disk.specs.Reading.{Holdings}
use Rattle.it_words.specs.Words.{AreWordsOf}
use Rattle.it_words.specs.declared.words.Words.{Words}
use Rattle.it_words.specs.declared.words.Words.TheVariants.{Verify}
use Rattle.it_words.specs.declared.words.verify_words.VerifyWords.{VerifyWords}
use Rattle.it_disk.specs.declared.fault.Fault.{Fault}
use Rattle.it_disk.specs.declared.fault.Fault.TheVariants.{Run as by_run}
use Rattle.it_verify_command.specs.declared.output_form.OutputForm.{OutputForm}
use Rattle.it_verify_command.specs.declared.output_form.OutputForm.TheVariants.{Full, Report}
use Rattle.it_verify_command.specs.declared.output_form.OutputForm.TheVariants.{Summary}
use Rattle.it_verify_command.specs.declared.strict_fault.StrictFault.{StrictFault}
use Rattle.it_verify_command.specs.declared.strict_fault.StrictFault.TheVariants.{Findings, Run}
use Rattle.it_outcome.specs.declared.outcome.RunFault.TheVariants.{Write}
use Rattle.it_verify_command.specs.FoundOutput.{AreTold}
use Rattle.it_program.specs.Commands.{FindsAgainst, form_asked}
use Rattle.it_program.specs.Stopped.{IsAllowed, IsBegun, NamesAllowed, NamesBegun, stop_of}
use Rattle.it_program.specs.declared.spent.Spent.{Spent}
use Rattle.it_program.specs.declared.stop.Stop.{Stop}
use Rattle.it_program.specs.declared.stop.Stop.TheVariants.{Findings as by_findings, OfFault}
use Rattle.it_program.specs.declared.stop.Stop.TheVariants.{TooManyChecks}

-- what went out of the command that words name
pub named_begun : {S E : Type 0} (Other : E → Type 0) (Same : Type 0) (disk : Holdings)
    (command : Words) (old new : Option (List ℕ)) (words : List (List ℕ)) (result : Result S E)
    → AreWordsOf words command
    → IfErr result (λ e. Other e → Same ⊎ IsBegun disk command old new)
    → IfErr result (λ e. Other e → Same ⊎ NamesBegun disk words old new)
named_begun Other Same disk command old new words (Ok s) named h = tt
named_begun Other Same disk command old new words (Err e) named h = λ other. ⊎_elim inl
    (λ begun. inr (record { command = command; are_words = named; begun = begun })) (h other)

-- what is told of the fault of a command, where that stops the program
pub handed_on : {T : Type 0} (P : Type 0) (result : Result T Stop) (fault : Fault)
    → IsErrAnd result (λ stop. stop ≡ OfFault fault) → (fault ≢ by_run Write → P)
    → IfErr result (λ stop. stop ≢ OfFault (by_run Write) → P)
handed_on P (Ok x) fault is told = tt
handed_on P (Err stop) fault is told = λ other. told (λ same. other (is ∙ ap OfFault same))

-- a strict verification stops the program by what it found only where it found something
pub found_by : {T : Type 0} (result : Result T Stop) (fault : StrictFault)
    → IsErrAnd result (λ stop. stop ≡ stop_of fault) → IsErrOf result by_findings
    → fault ≡ Findings
found_by (Ok x) fault is of = absurd is
found_by (Err stop) Findings is of = refl
found_by (Err stop) (Run reason) is of = cc

-- a strict verification stops the program with nothing gone out where that holds of its fault
pub kept_by : {T : Type 0} (Same : Type 0) (result : Result T Stop) (fault : StrictFault)
    → IsErrAnd result (λ stop. stop ≡ stop_of fault)
    → (fault ≢ Run Write → fault ≢ Findings → Same)
    → IfErr result (λ stop. stop ≢ OfFault (by_run Write) → stop ≢ by_findings → Same)
kept_by Same (Ok x) fault is kept = tt
kept_by Same (Err stop) fault is kept = λ other found.
    kept (λ same. other (is ∙ ap stop_of same)) (λ same. found (is ∙ ap stop_of same))

-- what is found has gone out in the full form, and otherwise nothing
pub shown_or_same : (Same Shown : Type 0) (form : OutputForm) → Shown → (form ≢ Full → Same)
    → Same ⊎ ((form ≡ Full) × Shown)
shown_or_same Same Shown (Report form) shown same = inl (same (λ is. cc))
shown_or_same Same Shown (Summary names) shown same = inl (same (λ is. cc))
shown_or_same Same Shown Full shown same = inr (refl, shown)

-- what has gone out of a verification that stopped
pub verify_begun : {T : Type 0} (Same : Type 0) (disk : Holdings) (words : VerifyWords)
    (old new : Option (List ℕ)) (result : Result T Stop)
    → IfErr result (λ stop. stop ≢ OfFault (by_run Write) → stop ≢ by_findings → Same)
    → (IsErrOf result by_findings → FindsAgainst disk words old new)
    → (IsErrOf result by_findings → form_asked words.output ≢ Full → Same)
    → IfErr result (λ stop. stop ≢ OfFault (by_run Write)
    → Same ⊎ IsBegun disk (Verify words) old new)
verify_begun Same disk words old new (Ok x) nothing finds lines = tt
verify_begun Same disk words old new (Err by_findings) nothing finds lines = λ other.
    shown_or_same Same _ (form_asked words.output) (finds refl) (lines refl)
verify_begun Same disk words old new (Err (TooManyChecks most)) nothing finds lines = λ other.
    inl (nothing other (λ is. cc))
verify_begun Same disk words old new (Err (OfFault fault)) nothing finds lines = λ other.
    inl (nothing other (λ is. cc))

-- in the full form what is told has gone out
pub told_out : (form : OutputForm) (old new before after : Option (List ℕ)) (text : List ℕ)
    → AreTold form old new before after text → form ≡ Full → Appends old new text
told_out (Report kind) old new before after text told is = cc
told_out (Summary names) old new before after text told is = cc
told_out Full old new before after text told is = told.0

-- a fault of a command says nothing of too many checks
of_fault : (command : Words) (fault : Fault) → IsAllowed command (OfFault fault)
of_fault (Verify words) fault = tt
of_fault command fault = tt

pub fault_allowed : {T : Type 0} (command : Words) (result : Result T Stop) (fault : Fault)
    → IsErrAnd result (λ stop. stop ≡ OfFault fault) → IfErr result (IsAllowed command)
fault_allowed command (Ok x) fault is = tt
fault_allowed command (Err stop) fault is =
    subst (IsAllowed command) (sym is) (of_fault command fault)

-- a strict verification stops the program with nothing said of too many checks
pub strict_unspent : {T : Type 0} (result : Result T Stop) (fault : StrictFault)
    → IsErrAnd result (λ stop. stop ≡ stop_of fault)
    → IfErr result (λ stop. (spent : Spent) → stop ≢ TooManyChecks spent)
strict_unspent (Ok x) fault is = tt
strict_unspent (Err stop) Findings is = λ spent same. cc (is, same)
strict_unspent (Err stop) (Run reason) is = λ spent same. cc (is, same)

-- what a command says of too many checks, the words say that name it
pub named_allowed : {T : Type 0} (words : List (List ℕ)) (command : Words) (result : Result T Stop)
    → AreWordsOf words command → IfErr result (IsAllowed command)
    → IfErr result (NamesAllowed words)
named_allowed words command (Ok x) named allowed = tt
named_allowed words command (Err (TooManyChecks spent)) named allowed = (command, named, allowed)
named_allowed words command (Err by_findings) named allowed = tt
named_allowed words command (Err (OfFault fault)) named allowed = tt

-- an outcome that says nothing of too many checks, or says how many its words allow
pub told_allowed : {T : Type 0} (words : VerifyWords) (result : Result T Stop)
    → IfErr result (λ stop. (spent : Spent) → stop ≢ TooManyChecks spent)
    → IfErr result (IsAllowed (Verify words))
told_allowed words (Ok x) unspent = tt
told_allowed words (Err (TooManyChecks spent)) unspent = absurd (unspent spent refl)
told_allowed words (Err by_findings) unspent = tt
told_allowed words (Err (OfFault fault)) unspent = tt

-- a fault says nothing of too many checks, whatever the words name
pub fault_names : {T : Type 0} (words : List (List ℕ)) (result : Result T Stop) (fault : Fault)
    → IsErrAnd result (λ stop. stop ≡ OfFault fault) → IfErr result (NamesAllowed words)
fault_names words (Ok x) fault is = tt
fault_names words (Err stop) fault is = subst (NamesAllowed words) (sym is) tt
