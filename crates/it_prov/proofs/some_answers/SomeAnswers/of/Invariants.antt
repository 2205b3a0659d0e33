use Rattle.std.proofs.Common.{◌<◌, ℕ, Contains, IsSome, length, take}
use Rattle.std.specs.BTreeMap.{get}
use Rattle.std.specs.Ordering.{nat_cmp}
use Rattle.it_prov.specs.inside.Shared.{HoldAnswers}
use Rattle.it_prov.proofs.some_answers.SomeAnswers.of.Given as goal

-- there are right answers, for the builders at the places so far
abbrev pub invariant-loop-place : goal.invariant-loop-place
invariant-loop-place g l = record {
  hold : HoldAnswers (g.C.Checks.panel l.checks) l.envelope l.asked.builders.items l.answers;
  asked : (place : ℕ) → Contains (take l.place-index l.place-items) place
      → place < length l.asked.builders.items → IsSome (get nat_cmp l.answers.by_place place);
}
