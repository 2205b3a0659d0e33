use Rattle.std.proofs.Common.{◌≡◌, ◌≤◌, take}
use Rattle.std.specs.List.{AllZip}
use Rattle.it_root_notes.specs.AuthorityMisses.{IsAuthorityShortfall}
use Rattle.it_root_notes.proofs.authority_notes.shortfalls_of.Given as goal

-- what the authorities so far miss; the budget is the one that was given
abbrev pub invariant-loop-authority : goal.invariant-loop-authority
invariant-loop-authority l = record {
  missed : AllZip IsAuthorityShortfall (take l.authority-index l.authorities) l.shortfalls.items;
  most : l.budget.most ≡ l.fn.budget.most;
  grows : l.fn.budget.checked ≤ l.budget.checked;
}
