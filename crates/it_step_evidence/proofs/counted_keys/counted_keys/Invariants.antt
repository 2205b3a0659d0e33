use Rattle.std.proofs.Common.{map, take}
use Rattle.it_chain.specs.Signers.{entry_of}
use Rattle.it_step_evidence.specs.inside.Counting.{AreKeys}
use Rattle.it_step_evidence.proofs.ClaimedFor.{lent}
use Rattle.it_step_evidence.proofs.counted_keys.counted_keys.Given as goal

-- the keys of the signers so far
abbrev pub invariant-loop-signer : goal.invariant-loop-signer
invariant-loop-signer g l =
    AreKeys (g.C.Checks.panel l.checks) l.step.name (map lent l.files)
    (map entry_of (take l.signer-index l.signer-items)) l.keys.items
