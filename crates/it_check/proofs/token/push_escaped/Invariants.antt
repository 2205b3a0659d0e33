use Rattle.std.proofs.Common.{◌≡◌, ◌++◌, take}
use Rattle.std.specs.List.{flat_map}
use Rattle.it_check.specs.FindingPlace.{pointer_byte}
use Rattle.it_check.proofs.token.push_escaped.Given as goal

abbrev pub invariant-loop-byte : goal.invariant-loop-byte
invariant-loop-byte l =
    l.text.items ≡ l.fn.text.items ++ flat_map pointer_byte (take l.byte-index l.bytes)
