use Rattle.std.proofs.Common.{◌↔◌, Contains, List, map, string_bytes, take, ℕ}
use Rattle.it_memory.specs.inside.Names.{HasNameAfter}
use Rattle.it_memory.proofs.names.names_after.Given as goal

-- the names of the paths so far
abbrev pub invariant-loop-path : goal.invariant-loop-path
invariant-loop-path l = (name : List ℕ) → Contains (map string_bytes l.names.items) name
    ↔ HasNameAfter l.front (take l.path-index l.paths) name
