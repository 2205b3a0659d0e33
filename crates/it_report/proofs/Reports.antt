-- What the first line of a report tells, and what stands behind it.
use Rattle.std.proofs.Common.{◌≡◌, ◌==◌, Bool, true, false, get_or, ◌<◌, ◌^◌, ℕ, List, ◌∷◌, ◌++◌}
use Rattle.std.proofs.Common.{codes, refl, sym, ap, ◌∙◌, append_assoc, lit<}
use Rattle.std.specs.Prelude.{decimal}
use Rattle.std.proofs.lemmas.Fmt.{decimal_injective}
use Rattle.it_report.proofs.Cut.{Lacks, Lacks-append, Lacks-decimal, Lacks-test, cut}
use Rattle.it_report.specs.Fault.{name_of, number_of}
use Rattle.it_report.specs.ReportLaws.{FirstLinesTell}
use Rattle.it_report.specs.Report.{first_line, further_lines, report_of}
use Rattle.it_report.specs.declared.refusal.Fault.{Fault}
use Rattle.it_report.specs.declared.refusal.Fault.TheVariants.{BadPolicy, BadSums, BadSums512}
use Rattle.it_report.specs.declared.refusal.Fault.TheVariants.{BadMoment}
use Rattle.it_report.specs.declared.refusal.Fault.TheVariants.{NoFiles, BadEnvelope}
use Rattle.it_report.specs.declared.refusal.Fault.TheVariants.{WrongPayloadType, OwnerMissing}
use Rattle.it_report.specs.declared.refusal.Fault.TheVariants.{BadLayout, Expired, TwoPayloads}
use Rattle.it_report.specs.declared.refusal.Fault.TheVariants.{TooDeep, Threshold, Disagree}
use Rattle.it_report.specs.declared.refusal.Fault.TheVariants.{InspectionInSublayout, RuleFailed}
use Rattle.it_report.specs.declared.refusal.Fault.TheVariants.{RecordMissing, BadRecord}
use Rattle.it_report.specs.declared.refusal.Fault.TheVariants.{NoExpectation, NoProvenance}
use Rattle.it_report.specs.declared.refusal.Refusal.{Refusal}
use Rattle.it_report.specs.declared.verdict.Verdict.{Verdict}
use Rattle.it_report.specs.declared.verdict.Verdict.TheVariants.{Accepted, Refused}

number_is_small : (fault : Fault) → number_of fault < 2 ^ 64
number_is_small (BadPolicy part) = lit< tt
number_is_small (BadSums n) = lit< tt
number_is_small (BadSums512 n) = lit< tt
number_is_small BadMoment = lit< tt
number_is_small NoFiles = lit< tt
number_is_small BadEnvelope = lit< tt
number_is_small WrongPayloadType = lit< tt
number_is_small (OwnerMissing id) = lit< tt
number_is_small (BadLayout part) = lit< tt
number_is_small Expired = lit< tt
number_is_small (TwoPayloads step id) = lit< tt
number_is_small TooDeep = lit< tt
number_is_small (Threshold step found needed) = lit< tt
number_is_small (Disagree step id) = lit< tt
number_is_small InspectionInSublayout = lit< tt
number_is_small (RuleFailed item side index path) = lit< tt
number_is_small (RecordMissing name) = lit< tt
number_is_small (BadRecord name) = lit< tt
number_is_small (NoExpectation path) = lit< tt
number_is_small (NoProvenance path best) = lit< tt

name_is_line : (fault : Fault) → Lacks 10 (name_of fault)
name_is_line (BadPolicy part) = Lacks-test 10 (codes "BadPolicy") refl
name_is_line (BadSums n) = Lacks-test 10 (codes "BadSums") refl
name_is_line (BadSums512 n) = Lacks-test 10 (codes "BadSums") refl
name_is_line BadMoment = Lacks-test 10 (codes "BadMoment") refl
name_is_line NoFiles = Lacks-test 10 (codes "NoFiles") refl
name_is_line BadEnvelope = Lacks-test 10 (codes "BadEnvelope") refl
name_is_line WrongPayloadType = Lacks-test 10 (codes "WrongPayloadType") refl
name_is_line (OwnerMissing id) = Lacks-test 10 (codes "OwnerMissing") refl
name_is_line (BadLayout part) = Lacks-test 10 (codes "BadLayout") refl
name_is_line Expired = Lacks-test 10 (codes "Expired") refl
name_is_line (TwoPayloads step id) = Lacks-test 10 (codes "TwoPayloads") refl
name_is_line TooDeep = Lacks-test 10 (codes "TooDeep") refl
name_is_line (Threshold step found needed) = Lacks-test 10 (codes "Threshold") refl
name_is_line (Disagree step id) = Lacks-test 10 (codes "Disagree") refl
name_is_line InspectionInSublayout = Lacks-test 10 (codes "InspectionInSublayout") refl
name_is_line (RuleFailed item side index path) = Lacks-test 10 (codes "RuleFailed") refl
name_is_line (RecordMissing name) = Lacks-test 10 (codes "RecordMissing") refl
name_is_line (BadRecord name) = Lacks-test 10 (codes "BadRecord") refl
name_is_line (NoExpectation path) = Lacks-test 10 (codes "NoExpectation") refl
name_is_line (NoProvenance path best) = Lacks-test 10 (codes "NoProvenance") refl

-- the first line without its line feed
abbrev words : Verdict → List ℕ
words (Accepted steps files) = codes "accepted"
words (Refused refusal) = codes "refused " ++ (decimal (number_of refusal.fault) ++ codes " "
    ++ name_of refusal.fault)

words-lack : (verdict : Verdict) → Lacks 10 (words verdict)
words-lack (Accepted steps files) = Lacks-test 10 (codes "accepted") refl
words-lack (Refused refusal) =
    let number = decimal (number_of refusal.fault) in
    Lacks-append 10 (codes "refused ") (number ++ codes " " ++ name_of refusal.fault)
    (Lacks-test 10 (codes "refused ") refl)
    (Lacks-append 10 (number ++ codes " ") (name_of refusal.fault)
    (Lacks-append 10 number (codes " ") (Lacks-decimal 10 (number_of refusal.fault) (lit< tt)
    (number_is_small refusal.fault)) (Lacks-test 10 (codes " ") refl))
    (name_is_line refusal.fault))

-- a report is these words, a line feed and the other lines
report-is : (verdict : Verdict) → report_of verdict ≡ words verdict ++ 10 ∷ further_lines verdict
report-is (Accepted steps files) = refl
report-is (Refused refusal) = append_assoc (words (Refused refusal)) (codes "\n")
    (further_lines (Refused refusal))

-- equal reports have equal words and equal other lines
parts_same : (a b : Verdict) → report_of a ≡ report_of b → (words a ≡ words b)
    × (further_lines a ≡ further_lines b)
parts_same a b same = cut 10 (words a) (words b) (further_lines a) (further_lines b) (words-lack a)
    (words-lack b) (sym (report-is a) ∙ same ∙ report-is b)

same_words : (a b : Verdict) → report_of a ≡ report_of b → words a ≡ words b
same_words a b same = (parts_same a b same).0

pub same_further : (a b : Verdict) → report_of a ≡ report_of b → further_lines a ≡ further_lines b
same_further a b same = (parts_same a b same).1

first-is : (verdict : Verdict) → first_line verdict ≡ words verdict ++ codes "\n"
first-is (Accepted steps files) = refl
first-is (Refused refusal) = refl

pub first_lines_tell : FirstLinesTell
first_lines_tell a b differ same =
    differ (first-is a ∙ ap (λ text. text ++ codes "\n") (same_words a b same) ∙ sym (first-is b))

-- the first letter is an a
abbrev begins_accepted : List ℕ → Bool
begins_accepted text = get_or text 0 0 == 97

-- the report of what is accepted is none of what is refused
pub accepts_or_refuses : (steps : List (List ℕ × ℕ)) (files : List (List ℕ)) (refusal : Refusal)
    → ¬ (report_of (Accepted steps files) ≡ report_of (Refused refusal))
accepts_or_refuses steps files refusal same =
    let apart : true ≡ false =
    ap begins_accepted (same_words (Accepted steps files) (Refused refusal) same) in cc

-- the number of a refusal's fault
pub same_number : (a b : Refusal) → report_of (Refused a) ≡ report_of (Refused b)
    → number_of a.fault ≡ number_of b.fault
same_number a b same =
    let number = number_of a.fault in
    let other = number_of b.fault in
    let small = number_is_small a.fault in
    let other_small = number_is_small b.fault in
    let words_same = same_words (Refused a) (Refused b) same in
    let after_word : decimal number ++ codes " " ++ name_of a.fault ≡ decimal other ++ codes " "
    ++ name_of b.fault = cc in
    let parts = cut 32 (decimal number) (decimal other) (name_of a.fault) (name_of b.fault)
    (Lacks-decimal 32 number (lit< tt) small) (Lacks-decimal 32 other (lit< tt) other_small)
    (sym (append_assoc (decimal number) (codes " ") (name_of a.fault)) ∙ after_word
    ∙ append_assoc (decimal other) (codes " ") (name_of b.fault)) in
    decimal_injective number other small other_small parts.0
