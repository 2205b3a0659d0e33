use Rattle.std.proofs.Common.{◌≡◌, ◌≤◌}
use Rattle.it_issued.proofs.Logging.{NoneBefore}
use Rattle.it_issued.proofs.logged.has_tied.Given as goal
use Rattle.it_issued.specs.inside.Tied.{IsTiedItem}

-- none of the items so far is so tied, and the budget is the one that was given
abbrev pub invariant-loop-item : goal.invariant-loop-item
invariant-loop-item l = record {
  none : NoneBefore (IsTiedItem l.shown.logs.now l.shown.issuer_key.now l.shown.bare.now l.tie) l.items l.item-index;
  most : l.budget.most ≡ l.fn.budget.most;
  grows : l.fn.budget.checked ≤ l.budget.checked;
}
