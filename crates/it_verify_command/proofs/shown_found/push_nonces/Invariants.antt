use Rattle.std.proofs.Common.{◌≡◌, ◌++◌, map, take}
use Rattle.it_verify_command.specs.FoundOutput.{shown_nonce}
use Rattle.it_verify_command.proofs.shown_found.push_nonces.Given as goal

-- the nonces so far, as they are written
abbrev pub invariant-loop-nonce : goal.invariant-loop-nonce
invariant-loop-nonce l =
    l.findings.items ≡ l.fn.findings.items
    ++ map shown_nonce (take l.nonce-index l.shared)
