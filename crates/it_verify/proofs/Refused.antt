-- What is made as prescribed is never refused.
use Rattle.std.proofs.Common.{List, [], ◌∷◌}
use Rattle.it_base.proofs.Firsts.{none_first}
use Rattle.it_base.specs.Places.{NoneAt}
use Rattle.it_dsse.specs.Panel.{Panel}
use Rattle.it_verify.specs.Documents.{Documents}
use Rattle.it_verify.specs.RefusedFor.{Stage, at_policy, at_sums, at_moment, at_files, at_envelope}
use Rattle.it_verify.specs.RefusedFor.{at_payload_type, at_owners, at_layout, at_links, at_records}
use Rattle.it_verify.specs.RefusedFor.{at_inspections, at_deliver, at_provenance, RefusedFor}
use Rattle.it_verify.specs.RefusedFor.{FailsAt, stages}
use Rattle.it_verify.specs.Evidence.{Evidence}
use Rattle.it_verify.specs.Made.{IsMadeBy, Made}
use Rattle.it_verify.specs.declared.inputs.Inputs.{Inputs}
use Rattle.it_report.specs.declared.refusal.Refusal.{Refusal}
use Rattle.it_verify.proofs.DocumentsRead.{clear_policy, clear_sums, clear_moment, clear_files}
use Rattle.it_verify.proofs.DocumentsRead.{clear_envelope, clear_type, clear_owners, clear_layout}
use Rattle.it_verify.proofs.EvidenceClear.{clear_links, clear_records, clear_inspections}
use Rattle.it_verify.proofs.EvidenceClear.{clear_deliver, clear_provenance}

module _ (panel : Panel) (inputs : Inputs) (documents : Documents) (evidence : Evidence)
    (made : IsMadeBy panel inputs documents evidence) where
  pub none_stands : (place : Stage) (refusal : Refusal) → ¬ FailsAt panel inputs place refusal
  none_stands at_policy refusal x = clear_policy panel inputs documents.policy made.read.policy
      refusal x
  none_stands at_sums refusal x = clear_sums panel inputs documents.delivered made.read.delivered
      refusal x
  none_stands at_moment refusal x = clear_moment panel inputs documents.moment made.read.moment
      refusal x
  none_stands at_files refusal x = clear_files panel inputs documents.delivered made.read.delivered
      made.some_file refusal x
  none_stands at_envelope refusal x =
      clear_envelope panel inputs documents.envelope made.read.envelope refusal x
  none_stands at_payload_type refusal x =
      clear_type panel inputs documents.envelope made.read.envelope made.read.payload_type refusal x
  none_stands at_owners refusal x = clear_owners panel inputs documents.envelope made.read.envelope
      documents.policy made.read.policy made.owners refusal x
  none_stands at_layout refusal x = clear_layout panel inputs documents.envelope made.read.envelope
      documents.layout made.read.layout refusal x
  none_stands at_links refusal x = clear_links panel inputs documents made.read evidence.steps
      made.is_evidence.steps refusal x
  none_stands at_records refusal x =
      clear_records panel inputs documents made.read evidence.inspections
      made.is_evidence.inspections refusal x
  none_stands at_inspections refusal x = clear_inspections panel inputs documents made.read evidence
      made.is_evidence made.inspection_rules refusal x
  none_stands at_deliver refusal x = clear_deliver panel inputs documents made.read evidence
      made.is_evidence made.deliver_rules refusal x
  none_stands at_provenance refusal x =
      clear_provenance panel inputs documents made.read made.provenance refusal x

  none_at : (some : List Stage) → NoneAt (FailsAt panel inputs) some
  none_at [] = tt
  none_at (place ∷ others) = (none_stands place, none_at others)

pub made_not_refused : (panel : Panel) (inputs : Inputs) (refusal : Refusal) → Made panel inputs
    → ¬ RefusedFor panel inputs refusal
made_not_refused panel inputs refusal made = none_first (FailsAt panel inputs) stages refusal
    (none_at panel inputs made.documents made.evidence made.made stages)
