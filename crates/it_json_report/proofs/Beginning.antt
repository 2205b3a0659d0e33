-- How a report as JSON begins.
use Rattle.std.proofs.Common.{refl}
use Rattle.it_report.specs.declared.verdict.Verdict.TheVariants.{Accepted, Refused}
use Rattle.it_json_report.specs.JsonLaws.{JsonFirst}

pub json_first : JsonFirst
json_first (Accepted steps files) = (_, refl)
json_first (Refused refusal) = (_, refl)
