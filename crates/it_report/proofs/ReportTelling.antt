-- What a report tells: the whole verdict.
use Rattle.std.proofs.Common.{codes, sym}
use Rattle.it_report.specs.Report.{fault_lines, place_form}
use Rattle.it_report.specs.ReportLaws.{ReportTells}
use Rattle.it_report.specs.declared.verdict.Verdict.TheVariants.{Accepted, Refused}
use Rattle.it_report.proofs.Accepting.{accepting_tells}
use Rattle.it_report.proofs.FaultForms.{faults_tell}
use Rattle.it_report.proofs.LineForms.{line_tells}
use Rattle.it_report.proofs.PlaceForms.{place_form-lacks, places_tell}
use Rattle.it_report.proofs.Reports.{accepts_or_refuses, same_further, same_number}

pub report_tells : ReportTells
report_tells (Accepted steps files) (Accepted other_steps other_files) h k same =
    let parts = accepting_tells steps other_steps files other_files h k
    (same_further (Accepted steps files) (Accepted other_steps other_files) same) in
    λ i. Accepted (parts.0 i) (parts.1 i)
report_tells (Accepted steps files) (Refused refusal) h k same =
    absurd (accepts_or_refuses steps files refusal same)
report_tells (Refused refusal) (Accepted steps files) h k same =
    absurd (accepts_or_refuses steps files refusal (sym same))
report_tells (Refused a) (Refused b) h k same =
    let parts = line_tells (codes "at") (place_form a.at) (place_form b.at) (fault_lines a.fault)
    (fault_lines b.fault) (place_form-lacks a.at) (place_form-lacks b.at)
    (same_further (Refused a) (Refused b) same) in
    let at = places_tell a.at b.at parts.0 in
    let fault = faults_tell a.fault b.fault h k (same_number a b same) parts.1 in
    λ i. Refused (record { at = at i; fault = fault i })
