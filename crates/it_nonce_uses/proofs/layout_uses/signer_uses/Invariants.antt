use Rattle.std.proofs.Common.{take}
use Rattle.it_findings.specs.Joined.{JoinedEach}
use Rattle.it_nonce_uses.specs.FileUses.{FileUses}
use Rattle.it_nonce_uses.proofs.layout_uses.signer_uses.Given as goal

-- those on the files so far
abbrev pub invariant-loop-file : goal.invariant-loop-file
invariant-loop-file g l =
    JoinedEach (FileUses (g.C.Checks.panel l.checks) l.functionary.step.now l.functionary.signer
    l.functionary.object.now) (take l.file-index l.file-items) l.uses.items
