use Rattle.std.proofs.Common.{take}
use Rattle.it_findings.specs.Joined.{JoinedEach}
use Rattle.it_nonce_uses.specs.LayoutUses.{SublayoutUses}
use Rattle.it_nonce_uses.proofs.sublayout_uses.sublayout_uses.Given as goal

-- those of the sublayouts so far
abbrev pub invariant-loop-sublayout : goal.invariant-loop-sublayout
invariant-loop-sublayout g l =
    JoinedEach (SublayoutUses (g.C.Checks.panel l.checks) l.links)
    (take l.sublayout-index l.sublayouts) l.uses.items
