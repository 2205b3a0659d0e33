use Rattle.std.proofs.Common.{◌↔◌, drop}
use Rattle.it_issued.proofs.Issuing.{AllValid}
use Rattle.it_issued.proofs.issued.are_valid.Given as goal

abbrev pub invariant-loop-certificate : goal.invariant-loop-certificate
invariant-loop-certificate l =
    AllValid l.moment l.certificates ↔ AllValid l.moment (drop l.certificate-index l.certificates)
