use Rattle.std.proofs.Common.{◌≡◌, reverse}
use Rattle.std.specs.Set.{unique_keys}
use Rattle.it_signer_notes.specs.Signers.{is_same}
use Rattle.it_signer_notes.specs.inside.Lent.{lent}
use Rattle.it_signer_notes.proofs.Once.{HasIdentities, from_behind}
use Rattle.it_signer_notes.proofs.signers.each_once.Given as goal

-- the identities of the lines so far are in the set, and each of them is kept once
abbrev pub invariant-loop-one : goal.invariant-loop-one
invariant-loop-one l = record {
  seen : HasIdentities (from_behind l.one-index l.vouched) l.seen;
  once : lent l.once.items ≡ reverse (unique_keys is_same (from_behind l.one-index l.vouched));
}
