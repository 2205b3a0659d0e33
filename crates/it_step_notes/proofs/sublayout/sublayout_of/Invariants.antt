use Rattle.std.proofs.Common.{All, take}
use Rattle.it_chain.specs.Contents.{files_of}
use Rattle.it_chain.specs.declared.bundle.File.{File}
use Rattle.it_step_notes.specs.Sublayout.{IsSublayoutIn}
use Rattle.it_step_notes.specs.declared.signed_layout.SignedLayout.{SignedLayout}
use Rattle.it_step_notes.proofs.sublayout.sublayout_of.Given as goal

-- no file so far holds such a sublayout
abbrev pub invariant-loop-file : goal.invariant-loop-file
invariant-loop-file g l =
    All (λ (file : File). (below : SignedLayout) → ¬ IsSublayoutIn (g.C.Checks.panel l.checks)
    l.at.layout.now l.at.step.now l.id file below)
    (take l.file-index (files_of l.at.bundle.now))
