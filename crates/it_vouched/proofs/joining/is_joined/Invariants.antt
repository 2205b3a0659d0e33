use Rattle.std.proofs.Common.{◌≡◌, drop}
use Rattle.std.specs.Str.{bytes_eq}
use Rattle.it_message.specs.Message.{joined}
use Rattle.it_vouched.proofs.joining.is_joined.Given as goal

-- the answer is that of what is left
abbrev pub invariant-loop-part : goal.invariant-loop-part
invariant-loop-part l =
    bytes_eq l.rest (joined (drop l.part-index l.parts)) ≡ bytes_eq l.message (joined l.parts)
