use Rattle.std.proofs.Common.{ap, length}
use Rattle.it_limits.proofs.OverLimit.{found_of}
use Rattle.it_limits.proofs.signatures.file_over_limit.Goals as goal

pub returns-in-Some : goal.returns-in-Some
returns-in-Some c =
    found_of c.args.file.now.bytes c.in-Some.envelope.now _ c.over_limit.result
    (rw c.in-Some.is at c.envelope.ensures) (ap length c.as_slice.ensures) c.over_limit.ensures

pub returns-in-None : goal.returns-in-None
returns-in-None c = λ count h. (rw c.in-None.is at c.envelope.ensures) h.envelope h.reads
