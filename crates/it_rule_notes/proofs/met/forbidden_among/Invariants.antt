use Rattle.std.proofs.Common.{map}
use Rattle.it_rules.proofs.LentPaths.{bytes}
use Rattle.it_rule_notes.proofs.Forbidden.{KeptBefore}
use Rattle.it_rule_notes.proofs.met.forbidden_among.Given as goal

-- what was kept so far is what the pattern matches of the free paths so far
abbrev pub invariant-loop-path : goal.invariant-loop-path
invariant-loop-path l = KeptBefore l.pattern (map bytes l.free) l.paths.items l.path-index
