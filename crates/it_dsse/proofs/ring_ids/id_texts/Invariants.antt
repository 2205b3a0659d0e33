use Rattle.std.proofs.Common.{◌≡◌, map, take, string_bytes}
use Rattle.it_dsse.proofs.ring_ids.id_texts.Given as goal

abbrev pub invariant-loop-entry : goal.invariant-loop-entry
invariant-loop-entry l = map string_bytes l.ids.items ≡ map (λ entry. entry.id)
    (take l.entry-index l.entries)
