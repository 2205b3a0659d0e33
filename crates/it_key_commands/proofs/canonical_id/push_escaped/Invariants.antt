use Rattle.std.proofs.Common.{◌≡◌, ◌++◌, take}
use Rattle.std.specs.List.{flat_map}
use Rattle.it_key_commands.specs.KeyId.{escaped}
use Rattle.it_key_commands.proofs.canonical_id.push_escaped.Given as goal

abbrev pub invariant-loop-byte : goal.invariant-loop-byte
invariant-loop-byte l = l.text.items ≡ l.fn.text.items
    ++ flat_map escaped (take l.byte-index l.bytes)
