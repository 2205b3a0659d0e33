use Rattle.std.proofs.Common.{◌≡◌, ◌++◌, map, string_bytes}
use Rattle.std.specs.FinMap.{keys}
use Rattle.it_verify.proofs.verification.paths_of.Given as goal

-- the paths so far, and those that are left
abbrev pub invariant-loop-path : goal.invariant-loop-path
invariant-loop-path l = l.paths.items ++ map string_bytes l.path-iterator ≡ keys l.delivered
