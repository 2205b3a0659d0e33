use Rattle.std.proofs.Common.{◌++◌, take}
use Rattle.sha2.specs.Hashers.{Holds512}
use Rattle.it_message.specs.Message.{joined}
use Rattle.it_ed25519.proofs.challenge.challenge.Given as goal

-- the hasher holds R, the key and the parts so far
abbrev pub invariant-loop-part : goal.invariant-loop-part
invariant-loop-part l = Holds512 l.hasher (l.r ++ l.key ++ joined (take l.part-index l.message))
