use Rattle.std.proofs.Common.{All, take}
use Rattle.it_memory.specs.Files.{HasBelow}
use Rattle.it_memory.proofs.memory.Memory.refuse_below_files.Given as goal

-- nothing lies below the paths so far
abbrev pub invariant-loop-path : goal.invariant-loop-path
invariant-loop-path l = All (λ path. ¬ HasBelow l.self path.now) (take l.path-index l.paths)
