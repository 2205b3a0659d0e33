use Rattle.std.proofs.Common.{take}
use Rattle.it_chain.specs.Signers.{entry_of}
use Rattle.it_findings.specs.Joined.{JoinedEach}
use Rattle.it_nonce_uses.specs.LayoutUses.{SignerUses}
use Rattle.it_nonce_uses.proofs.layout_uses.step_uses.Given as goal

-- those by the signers so far
abbrev pub invariant-loop-signer : goal.invariant-loop-signer
invariant-loop-signer g l =
    JoinedEach (λ signer. SignerUses (g.C.Checks.panel l.checks) l.level.at.now l.level.links.now
    l.step (entry_of signer)) (take l.signer-index l.signer-items) l.uses.items
