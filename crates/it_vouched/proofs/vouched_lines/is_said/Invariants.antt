use Rattle.std.proofs.Common.{◌≡◌, drop}
use Rattle.std.specs.List.{list_any}
use Rattle.it_message.specs.Message.{joined}
use Rattle.it_vouched.specs.Check.{says}
use Rattle.it_vouched.proofs.vouched_lines.is_said.Given as goal

-- the answer is that of the elements that are left
abbrev pub invariant-loop-one : goal.invariant-loop-one
invariant-loop-one l =
    list_any (says l.key (joined l.message) l.signature) (drop l.one-index l.vouched)
    ≡ list_any (says l.key (joined l.message) l.signature) l.vouched
