use Rattle.std.proofs.Common.{take}
use Rattle.it_issued.proofs.Reading.{AreRead}
use Rattle.it_root_notes.proofs.certificates.certificates_of.Given as goal

abbrev pub invariant-loop-place : goal.invariant-loop-place
invariant-loop-place l = AreRead (take l.place l.listed) l.certificates.items
