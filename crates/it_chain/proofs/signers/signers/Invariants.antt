use Rattle.std.proofs.Common.{◌≡◌, filter_map, map, take}
use Rattle.it_chain.specs.Signers.{entry_of}
use Rattle.it_chain.proofs.SignerLists.{known}
use Rattle.it_chain.proofs.signers.signers.Given as goal

-- the signers among the ids so far
abbrev pub invariant-loop-id : goal.invariant-loop-id
invariant-loop-id l = map entry_of l.found.items ≡ filter_map (known l.layout.keys)
    (map (λ id. id.now) (take l.id-index l.id-items))
