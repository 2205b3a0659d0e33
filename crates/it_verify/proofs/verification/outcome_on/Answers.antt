use Rattle.std.proofs.Common.{None, Some, refl}
use Rattle.it_verify.specs.Documents.{setting_of}
use Rattle.it_verify.specs.Made.{verdict_of}
use Rattle.it_verify.specs.declared.grounds.Before.TheVariants.{Found}
use Rattle.it_verify.specs.declared.grounds.Found.{Found as FoundThings}
use Rattle.it_verify.proofs.Held.{chain_records}
use Rattle.it_verify.proofs.Refusing.{refused_found, refused_outcome}
use Rattle.it_verify.proofs.WholeCosting.{files_most, links_most, owners_most, takes_enough}
use Rattle.it_verify.proofs.verification.outcome_on.Goals as goal

pub returns-in-Err-clause-outcome : goal.returns-in-Err-clause-outcome
returns-in-Err-clause-outcome g c =
    let panel = g.C.Checks.panel c.args.checks.now in
    let stopped = c.in-Err.field-0 in
    refused_outcome panel c.args.opened.now.inputs.now stopped.before stopped.failure
    c.in-Err.ensures.documents c.refused_with.result c.refused_with.ensures

pub returns-in-Err-gather-clause-outcome : goal.returns-in-Err-gather-clause-outcome
returns-in-Err-gather-clause-outcome g c =
    let panel = g.C.Checks.panel c.args.checks.now in
    let inputs = c.args.opened.now.inputs.now in
    let stopped = c.in-Err-gather.ensures.evidence in
    let hold = c.in-Ok.ensures.documents in
    let before = Found (record {
      documents = c.in-Ok.documents;
      steps = c.in-Err-gather.field-0.steps;
      lines = None;
    }) in
    let failure = c.in-Err-gather.field-0.failure in
    refused_outcome panel inputs before failure
    (refused_found panel inputs (record {
      documents = c.in-Ok.documents;
      steps = c.in-Err-gather.field-0.steps;
      lines = None;
    }) (record { read = hold.read; owners = hold.owners; steps = stopped.steps; lines = tt })
    failure stopped.fails stopped.before_lines)
    c.refused_with-in-Err-gather.result c.refused_with-in-Err-gather.ensures

pub returns-in-Err-judge-clause-outcome : goal.returns-in-Err-judge-clause-outcome
returns-in-Err-judge-clause-outcome g c =
    let panel = g.C.Checks.panel c.args.checks.now in
    let inputs = c.args.opened.now.inputs.now in
    let documents = c.in-Ok.documents in
    let hold = c.in-Ok.ensures.documents in
    let steps = c.in-Ok-gather.evidence.steps in
    let stopped = c.in-Err-judge.ensures.made in
    let lines = c.in-Err-judge.field-0.lines in
    let failure = c.in-Err-judge.field-0.failure in
    let found : FoundThings = record { documents = documents; steps = Some steps; lines = lines } in
    refused_outcome panel inputs (Found found) failure
    (refused_found panel inputs found (record {
      read = hold.read;
      owners = hold.owners;
      steps = chain_records (setting_of panel documents) inputs.depth documents.layout
          inputs.links steps c.in-Ok-gather.ensures.evidence.steps;
      lines = stopped.lines;
    }) failure stopped.fails stopped.has_lines)
    c.refused_with-in-Err-judge.result c.refused_with-in-Err-judge.ensures

pub returns-in-Err-clause-at_most : goal.returns-in-Err-clause-at_most
returns-in-Err-clause-at_most g c =
    let panel = g.C.Checks.panel c.args.checks.now in
    owners_most panel c.args.opened.now.inputs.now c.args.meter.now c.read_documents.new.meter
    c.read_documents.ensures.at_most

pub returns-in-Err-gather-clause-at_most : goal.returns-in-Err-gather-clause-at_most
returns-in-Err-gather-clause-at_most g c =
    let panel = g.C.Checks.panel c.args.checks.now in
    links_most panel c.args.opened.now.inputs.now c.args.meter.now c.read_documents.new.meter
    c.read_documents.ensures.at_most c.in-Ok.documents c.in-Ok.ensures.documents.read
    c.gather.new.meter c.gather.ensures.at_most

pub returns-in-Err-judge-clause-at_most : goal.returns-in-Err-judge-clause-at_most
returns-in-Err-judge-clause-at_most g c =
    let panel = g.C.Checks.panel c.args.checks.now in
    files_most panel c.args.opened.now.inputs.now c.args.meter.now c.read_documents.new.meter
    c.read_documents.ensures.at_most c.in-Ok.documents c.in-Ok.ensures.documents.read
    c.gather.new.meter c.gather.ensures.at_most c.judge.new.meter c.judge.ensures.at_most

pub returns-in-Ok-judge-clause-outcome : goal.returns-in-Ok-judge-clause-outcome
returns-in-Ok-judge-clause-outcome g c = record {
  made = c.in-Ok-judge.ensures.made;
  lines = c.in-Ok-judge.ensures.lines;
}

pub returns-in-Ok-judge-clause-at_most : goal.returns-in-Ok-judge-clause-at_most
returns-in-Ok-judge-clause-at_most g c =
    let panel = g.C.Checks.panel c.args.checks.now in
    files_most panel c.args.opened.now.inputs.now c.args.meter.now c.read_documents.new.meter
    c.read_documents.ensures.at_most c.in-Ok.documents c.in-Ok.ensures.documents.read
    c.gather.new.meter c.gather.ensures.at_most c.judge.new.meter c.judge.ensures.at_most

pub returns-in-Ok-judge-clause-at_least : goal.returns-in-Ok-judge-clause-at_least
returns-in-Ok-judge-clause-at_least g c =
    let panel = g.C.Checks.panel c.args.checks.now in
    takes_enough panel c.args.opened.now.inputs.now c.in-Ok.documents c.in-Ok.ensures.documents
    c.in-Ok-gather.evidence c.args.meter.now c.read_documents.new.meter c.gather.new.meter
    c.judge.new.meter c.in-Ok.ensures.counted c.in-Ok-judge.ensures.at_least
    (verdict_of c.in-Ok.documents c.in-Ok-gather.evidence) refl
    c.in-Ok-gather.ensures.at_least c.in-Ok-gather.ensures.at_least_keys
