-- The report of a verdict in a form that is asked for (this profile's choice).
use Rattle.std.specs.Prelude.{ℕ, List}
use Rattle.it_report.specs.Report.{report_of}
use Rattle.it_report.specs.declared.verdict.Verdict.{Verdict}
use Rattle.it_json_report.specs.JsonReport.{json_of}
use Rattle.it_json_report.specs.declared.form.ReportForm.{ReportForm}
use Rattle.it_json_report.specs.declared.form.ReportForm.TheVariants.{Lines, Json}

abbrev pub form_of : ReportForm → Verdict → List ℕ
form_of Lines verdict = report_of verdict
form_of Json verdict = json_of verdict
