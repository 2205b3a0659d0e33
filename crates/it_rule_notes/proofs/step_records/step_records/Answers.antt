use Rattle.std.proofs.Common.{rules, w64}
use Rattle.std.proofs.lemmas.Int.{to_z-of_z}
use Rattle.it_chain.proofs.StepRecords.{records_differ}
use Rattle.it_rule_notes.specs.CountingFile.{setting_of}
use Rattle.it_rule_notes.proofs.step_records.step_records.Goals as goal

pub returns-in-Ok-clause-are : goal.returns-in-Ok-clause-are
returns-in-Ok-clause-are g c = rw (to_z-of_z w64 c.args.level.now.moment (search rules)) at
    c.in-Ok.ensures.records

pub returns-in-Ok-clause-differ : goal.returns-in-Ok-clause-differ
returns-in-Ok-clause-differ g c =
    let panel = g.C.Checks.panel c.args.checks.now in
    records_differ (setting_of panel c.args.level.now.moment) c.args.depth c.args.level.now.layout.now
    c.args.level.now.links.now c.in-Ok.judged.chain.steps
    (rw (to_z-of_z w64 c.args.level.now.moment (search rules)) at c.in-Ok.ensures.records)
