use Rattle.std.proofs.Common.{◌≡◌, ◌++◌, take}
use Rattle.std.specs.List.{flat_map}
use Rattle.it_json_report.specs.Json.{escaped}
use Rattle.it_json_report.proofs.texts.push_bytes.Given as goal

abbrev pub invariant-loop-byte : goal.invariant-loop-byte
invariant-loop-byte l = l.json.items ≡ l.fn.json.items
    ++ flat_map escaped (take l.byte-index l.bytes)
