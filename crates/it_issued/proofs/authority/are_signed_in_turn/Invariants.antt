use Rattle.std.proofs.Common.{◌≡◌, ◌↔◌, ◌-◌, ◌≤◌, drop}
use Rattle.it_issued.proofs.Turning.{InTurn}
use Rattle.it_issued.proofs.authority.are_signed_in_turn.Given as goal

abbrev pub invariant-loop-place : goal.invariant-loop-place
invariant-loop-place l = record {
  turn : InTurn l.certificates ↔ InTurn (drop (l.place - 1) l.certificates);
  most : l.budget.most ≡ l.fn.budget.most;
  grows : l.fn.budget.checked ≤ l.budget.checked;
}
