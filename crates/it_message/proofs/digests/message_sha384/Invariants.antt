use Rattle.std.proofs.Common.{take}
use Rattle.sha2.specs.Hashers.{Holds384}
use Rattle.it_message.specs.Message.{joined}
use Rattle.it_message.proofs.digests.message_sha384.Given as goal

-- the hasher holds the parts so far
abbrev pub invariant-loop-part : goal.invariant-loop-part
invariant-loop-part l = Holds384 l.hasher (joined (take l.part-index l.message))
