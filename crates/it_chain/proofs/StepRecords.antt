-- The records of a layout's steps: their names differ.
use Rattle.std.proofs.Common.{ℕ, List}
use Rattle.it_docs.specs.declared.layout.Layout.{Layout}
use Rattle.it_rules.specs.Rules.{NamesDiffer}
use Rattle.it_chain.specs.Chain.{holds_below}
use Rattle.it_chain.specs.Contents.{Contents}
use Rattle.it_chain.specs.CountedBodies.{Setting}
use Rattle.it_chain.specs.Judged.{AreStepRecords}
use Rattle.it_chain.specs.StepRules.{links_in}
use Rattle.it_chain.specs.declared.chain.StepResult.{StepResult}
use Rattle.it_chain.specs.inside.Below.{fails_below}
use Rattle.it_chain.proofs.LevelRules.{links_differ}
use Rattle.it_chain.proofs.Walks.{one_below}

pub records_differ : (setting : Setting) (depth : ℕ) (layout : Layout) (bundle : Contents)
    (results : List StepResult) → AreStepRecords setting depth layout bundle results
    → NamesDiffer (links_in results)
records_differ setting depth =
    links_differ (holds_below setting depth) (fails_below setting depth) (one_below setting depth)
    setting
