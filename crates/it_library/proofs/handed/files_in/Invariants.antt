use Rattle.std.proofs.Common.{◌≡◌, ◌++◌, flat_map, length, map, take}
use Rattle.it_memory.specs.Files.{files_of}
use Rattle.it_library.proofs.handed.files_in.Given as goal

-- the files of the paths so far, and the contents that follow them
abbrev pub invariant-loop-place : goal.invariant-loop-place
invariant-loop-place l = record {
  paths_are : map (λ file. file.0) (files_of l.files.items)
      ≡ map (λ path. path.now) (take l.place l.path-items);
  sizes_are : map (λ file. length file.1) (files_of l.files.items)
      ≡ take l.place l.handed.sizes.now;
  contents_are : l.handed.contents.now
      ≡ flat_map (λ file. file.1) (files_of l.files.items) ++ l.rest;
}
