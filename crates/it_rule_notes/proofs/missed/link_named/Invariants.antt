use Rattle.std.proofs.Common.{◌≡◌, ◌≢◌, ℕ, ◌<◌, Some}
use Rattle.std.specs.List.{slice_get}
use Rattle.it_rules.specs.declared.item.Named.{Named}
use Rattle.it_rule_notes.proofs.missed.link_named.Given as goal

-- no link so far has the name
abbrev pub invariant-loop-link : goal.invariant-loop-link
invariant-loop-link l = (i : ℕ) (link : Named) → i < l.link-index → slice_get l.links i ≡ Some link
    → link.name.now ≢ l.name
