use Rattle.std.proofs.Common.{◌≡◌, ◌++◌, take}
use Rattle.std.specs.List.{flat_map}
use Rattle.it_strict.specs.NonceText.{nonce_line}
use Rattle.it_strict.proofs.nonce_lines.push_each.Given as goal

abbrev pub invariant-loop-nonce : goal.invariant-loop-nonce
invariant-loop-nonce l =
    l.text.items ≡ l.fn.text.items ++ flat_map nonce_line (take l.nonce-index l.shared)
