use Rattle.std.proofs.Common.{◌≡◌, map, take}
use Rattle.it_rules.specs.Ranges.{AreInOrder}
use Rattle.it_memory.proofs.paths.paths_of.Given as goal

-- the paths of the files so far
abbrev pub invariant-loop-file : goal.invariant-loop-file
invariant-loop-file l = record {
  in_order : AreInOrder l.paths.items;
  same : map (λ path. path.now) l.paths.items
      ≡ map (λ file. file.path.now) (take l.file-index l.files);
}
