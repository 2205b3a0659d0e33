use Rattle.std.proofs.Common.{◌≡◌, map, take}
use Rattle.it_chain.proofs.signers.id_texts.Given as goal

-- the texts of the ids so far
abbrev pub invariant-loop-id : goal.invariant-loop-id
invariant-loop-id l = map (λ id. id.now) l.texts.items ≡ take l.id-index l.ids
