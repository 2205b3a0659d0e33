-- What the verdict on an outcome is.
use Rattle.it_report.specs.declared.verdict.Verdict.{Verdict}
use Rattle.it_report.specs.declared.verdict.Verdict.TheVariants as verdict
use Rattle.it_verify.specs.Made.{verdict_of}
use Rattle.it_verify.specs.declared.grounds.Outcome.{Outcome}
use Rattle.it_verify.specs.declared.grounds.Outcome.TheVariants.{Made, Refused}

-- the verdict that an outcome tells
abbrev pub told_by : Outcome → Verdict
told_by (Made grounds) = verdict_of grounds.documents grounds.evidence
told_by (Refused refusal before) = verdict.Refused refusal
