use Rattle.std.proofs.Common.{◌≡◌, ◌++◌, map, string_bytes, All}
use Rattle.std.specs.FinMap.{keys}
use Rattle.std.specs.Str.{IsUtf8}
use Rattle.it_rules.proofs.paths.paths_of.Given as goal

-- the paths so far, and those to come, are the keys
abbrev pub invariant-loop-path : goal.invariant-loop-path
invariant-loop-path l = record {
  whole : map (λ lent. lent.now) l.paths.items ++ map string_bytes l.path-iterator
      ≡ keys l.artifacts;
  are_texts : All (λ lent. IsUtf8 lent.now) l.paths.items;
}
