use Rattle.std.proofs.Common.{◌≡◌, ◌-◌, ◌≤◌}
use Rattle.it_certificate.specs.Authority.{IsSignedBy}
use Rattle.it_issued.specs.Signature.{Signs}
use Rattle.it_root_notes.proofs.Standing.{Tell}
use Rattle.it_root_notes.proofs.chain.first_unsigned.Given as goal

abbrev pub invariant-loop-place : goal.invariant-loop-place
invariant-loop-place l = record {
  tell : Tell (IsSignedBy Signs) (l.place - 1) l.certificates;
  most : l.budget.most ≡ l.fn.budget.most;
  grows : l.fn.budget.checked ≤ l.budget.checked;
}
