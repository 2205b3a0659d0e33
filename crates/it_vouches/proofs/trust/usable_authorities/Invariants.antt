use Rattle.std.proofs.Common.{◌≡◌, ◌≤◌, take}
use Rattle.it_vouches.specs.inside.Usable.{AreUsable}
use Rattle.it_vouches.proofs.trust.usable_authorities.Given as goal

abbrev pub invariant-loop-authority : goal.invariant-loop-authority
invariant-loop-authority l = record {
  usable : AreUsable (take l.authority-index l.listed) l.usable.items;
  most : l.budget.most ≡ l.fn.budget.most;
  grows : l.fn.budget.checked ≤ l.budget.checked;
}
