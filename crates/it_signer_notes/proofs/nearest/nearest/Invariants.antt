use Rattle.std.proofs.Common.{◌≡◌, drop, find}
use Rattle.it_signer_notes.specs.Nearest.{is_near}
use Rattle.it_signer_notes.specs.inside.Lent.{lent}
use Rattle.it_signer_notes.proofs.nearest.nearest.Given as goal

-- the first one is that of the keys that are left
abbrev pub invariant-loop-key : goal.invariant-loop-key
invariant-loop-key l = find (is_near l.identity) (lent (drop l.key-index l.keys))
    ≡ find (is_near l.identity) (lent l.keys)
