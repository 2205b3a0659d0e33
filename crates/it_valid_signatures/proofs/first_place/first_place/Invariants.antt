use Rattle.std.proofs.Common.{All, take}
use Rattle.it_dsse.specs.Signed.{Vouches}
use Rattle.it_valid_signatures.proofs.first_place.first_place.Given as goal

-- none of the signatures so far vouches
abbrev pub invariant-loop-index : goal.invariant-loop-index
invariant-loop-index g l =
    All (λ s. ¬ Vouches (g.C.Checks.panel l.checks) l.id (g.C.Checks.number l.checks l.key)
    l.message s) (take l.index l.signatures)
