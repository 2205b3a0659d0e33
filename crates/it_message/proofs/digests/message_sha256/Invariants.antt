use Rattle.std.proofs.Common.{take}
use Rattle.sha2.specs.Hashers.{Holds256}
use Rattle.it_message.specs.Message.{joined}
use Rattle.it_message.proofs.digests.message_sha256.Given as goal

-- the hasher holds the parts so far
abbrev pub invariant-loop-part : goal.invariant-loop-part
invariant-loop-part l = Holds256 l.hasher (joined (take l.part-index l.message))
