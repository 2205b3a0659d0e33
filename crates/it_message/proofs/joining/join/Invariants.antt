use Rattle.std.proofs.Common.{◌≡◌, take}
use Rattle.it_message.specs.Message.{joined}
use Rattle.it_message.proofs.joining.join.Given as goal

-- the parts so far, one after another
abbrev pub invariant-loop-part : goal.invariant-loop-part
invariant-loop-part l = l.message.items ≡ joined (take l.part-index l.parts)
