use Rattle.std.proofs.Common.{ap, arith, length}
use Rattle.it_limits.proofs.FewBraces.{few_braces}
use Rattle.it_limits.proofs.OverLimit.{found_of}
use Rattle.it_limits.proofs.signatures.signatures_over_limit.Goals as goal

pub returns-then-braces_in : goal.returns-then-braces_in
returns-then-braces_in c =
    few_braces c.args.bytes.now (omega (arith, c.braces_in.ensures, c.if-braces_in.true))

pub returns-in-Some : goal.returns-in-Some
returns-in-Some c =
    found_of c.args.bytes.now c.in-Some.envelope _ c.over_limit.result
    (rw c.in-Some.is at c.in_ok-envelope.ensures)
    (ap length c.as_slice.ensures) c.over_limit.ensures

pub returns-in-None : goal.returns-in-None
returns-in-None c = λ count h. (rw c.in-None.is at c.in_ok-envelope.ensures) h.envelope h.reads
