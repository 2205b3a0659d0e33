use Rattle.it_chain.proofs.StepRecords.{records_differ}
use Rattle.it_rule_notes.specs.CountingFile.{setting_of}
use Rattle.it_notes.proofs.rules.met_at.Goals as goal

pub met_note_over-requires : goal.met_note_over-requires
met_note_over-requires g c =
    let panel = g.C.Checks.panel c.args.checks.now in
    let level = c.args.level.now in
    rw c.as_slice.ensures (records_differ (setting_of panel level.moment) c.args.depth
    level.signed.layout level.links.now c.in-Some.steps (rw c.in-Some.is at c.requires))
