use Rattle.std.proofs.Common.{◌≡◌, ◌++◌, take}
use Rattle.std.specs.List.{flat_map}
use Rattle.it_report.specs.Name.{byte_form}
use Rattle.it_report.proofs.name.push_bytes.Given as goal

abbrev pub invariant-loop-byte : goal.invariant-loop-byte
invariant-loop-byte l = l.text.items ≡ l.fn.text.items
    ++ flat_map byte_form (take l.byte-index l.bytes)
