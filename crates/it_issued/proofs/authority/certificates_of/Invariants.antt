use Rattle.std.proofs.Common.{take}
use Rattle.it_issued.proofs.Reading.{AreRead}
use Rattle.it_issued.proofs.authority.certificates_of.Given as goal

abbrev pub invariant-loop-raw : goal.invariant-loop-raw
invariant-loop-raw l = AreRead (take l.raw-index l.listed) l.certificates.items
