use Rattle.it_file_evidence.proofs.Proven.{unproven_missing, unproven_none}
use Rattle.it_file_evidence.proofs.found.index_found.Goals as goal

pub returns-in-Err-NoExpectation : goal.returns-in-Err-NoExpectation
returns-in-Err-NoExpectation g c =
    let panel = g.C.Checks.panel c.args.attestations.now.checks.now in
    let arm = c.in-Err-NoExpectation in
    unproven_none panel c.args.attestations.now.expectations.now
    c.args.attestations.now.envelopes.now (c.args.path.now, c.args.digests)
    (arm.ensures.no_expectation arm.field-0-0 arm.field-0-is).1

pub returns-in-Err-NoProvenance : goal.returns-in-Err-NoProvenance
returns-in-Err-NoProvenance g c =
    let panel = g.C.Checks.panel c.args.attestations.now.checks.now in
    let arm = c.in-Err-NoProvenance in
    unproven_missing panel c.args.attestations.now.expectations.now
    c.args.attestations.now.envelopes.now (c.args.path.now, c.args.digests) arm.field-0-1
    (arm.ensures.no_provenance arm.field-0-0 arm.field-0-1 arm.field-0-is).1
