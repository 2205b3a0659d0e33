use Rattle.std.proofs.Common.{◌≡◌, drop}
use Rattle.it_signer_notes.specs.Signers.{is_listed}
use Rattle.it_signer_notes.specs.inside.Lent.{lent}
use Rattle.it_signer_notes.proofs.listed.is_listed.Given as goal

-- the answer is that of the keys that are left
abbrev pub invariant-loop-key : goal.invariant-loop-key
invariant-loop-key l =
    is_listed (lent (drop l.key-index l.keys)) l.identity ≡ is_listed (lent l.keys) l.identity
