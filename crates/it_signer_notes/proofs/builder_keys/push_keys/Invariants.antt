use Rattle.std.proofs.Common.{◌≡◌, ◌++◌, map}
use Rattle.std.specs.FinMap.{values}
use Rattle.it_base.specs.Table.{named_entries}
use Rattle.it_signer_notes.specs.inside.Lent.{lent}
use Rattle.it_signer_notes.proofs.builder_keys.push_keys.Given as goal

-- the keys so far, and those to come
abbrev pub invariant-loop-key : goal.invariant-loop-key
invariant-loop-key l =
    lent l.keys.items ++ map (λ entry. entry.1) (named_entries l.key-iterator)
    ≡ lent l.fn.keys.items ++ values l.table
