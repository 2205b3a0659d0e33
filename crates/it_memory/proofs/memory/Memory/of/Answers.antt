use Rattle.std.proofs.Common.{◌∙◌, ap, map}
use Rattle.std.proofs.lemmas.List.Sorted.{IsPermutation-map}
use Rattle.it_memory.proofs.Ordered.{path_of, paths_differ, shown}
use Rattle.it_memory.proofs.memory.Memory.of.Goals as goal

pub returns-clause-same : goal.returns-clause-same
returns-clause-same c =
    IsPermutation-map shown c.args.files.items c.sort_unstable_by_key.new.self.items
    c.sort_unstable_by_key.ensures.permutation

pub returns-clause-apart : goal.returns-clause-apart
returns-clause-apart c =
    let files = c.sort_unstable_by_key.new.self.items in
    let paths = c.in_ok-paths.paths.items in
    record {
      differ = paths_differ files paths (record {
        in_order = c.in_ok-paths.ensures.in_order;
        same = c.in_ok-paths.ensures.paths ∙ ap (map path_of) c.as_slice.ensures.value;
      });
      none_below = c.in_ok-refuse_below_files.ensures;
    }
