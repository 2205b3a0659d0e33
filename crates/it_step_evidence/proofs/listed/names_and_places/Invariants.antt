use Rattle.std.proofs.Common.{◌≡◌, ◌++◌, ℕ, List, map}
use Rattle.std.specs.FinMap.{entries}
use Rattle.it_base.specs.Table.{named_entries}
use Rattle.it_step_evidence.proofs.listed.names_and_places.Given as goal

-- the entries so far and those that are left, with what was listed
abbrev pub invariant-loop-name : goal.invariant-loop-name
invariant-loop-name l = record {
  done : List (List ℕ × ℕ);
  all : entries l.table ≡ done ++ named_entries l.name-iterator;
  names : l.names.items ≡ map (λ (entry : List ℕ × ℕ). entry.0) done;
  places : l.places.items ≡ map (λ (entry : List ℕ × ℕ). entry.1) done;
}
