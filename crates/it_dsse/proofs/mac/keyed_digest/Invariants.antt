use Rattle.std.proofs.Common.{◌++◌, take}
use Rattle.sha2.specs.Hashers.{Holds256}
use Rattle.it_dsse.specs.Hmac.{masked}
use Rattle.it_message.specs.Message.{joined}
use Rattle.it_dsse.proofs.mac.keyed_digest.Given as goal

-- the hasher holds the block and the parts so far
abbrev pub invariant-loop-part : goal.invariant-loop-part
invariant-loop-part l = Holds256 l.hasher (masked l.mask l.block
    ++ joined (take l.part-index l.message))
