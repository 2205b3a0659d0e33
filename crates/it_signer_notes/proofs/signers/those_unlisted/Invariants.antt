use Rattle.std.proofs.Common.{◌≡◌, filter, not, take}
use Rattle.it_signer_notes.specs.Signers.{is_listed}
use Rattle.it_signer_notes.specs.inside.Lent.{lent}
use Rattle.it_signer_notes.proofs.signers.those_unlisted.Given as goal

-- those of the identities so far
abbrev pub invariant-loop-identity : goal.invariant-loop-identity
invariant-loop-identity l = lent l.those.items
    ≡ filter (λ identity. not (is_listed (lent l.keys) identity))
    (lent (take l.identity-index l.identities))
