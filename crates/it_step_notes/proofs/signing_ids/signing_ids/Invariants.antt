use Rattle.std.proofs.Common.{take}
use Rattle.it_dsse.specs.Signed.{AreThose}
use Rattle.it_step_notes.specs.Signing.{IsSignedUnder}
use Rattle.it_step_notes.proofs.signing_ids.signing_ids.Given as goal

-- those of the ids so far that signed
abbrev pub invariant-loop-id : goal.invariant-loop-id
invariant-loop-id g l = AreThose (IsSignedUnder (g.C.Checks.panel l.checks)
    l.at.layout.now l.envelope) (take l.id-index l.id-items) l.ids.items
