use Rattle.std.proofs.Common.{get_or}
use Rattle.std.proofs.lemmas.Option.{slice_get-get_or}
use Rattle.it_sorted_paths.proofs.Search.{not_found, same_path}
use Rattle.it_sorted_paths.proofs.place_of.Goals as goal

pub returns-in-Ok : goal.returns-in-Ok
returns-in-Ok c =
    let found = get_or c.args.paths.now c.in-Ok.place c.args.path in
    record {
      found = found;
      at_place = slice_get-get_or c.args.paths.now c.in-Ok.place c.args.path
          c.in-Ok.ensures.bound;
      same = same_path found.now c.args.path.now (c.in-Ok.ensures.ok c.args.path);
    }

pub returns-in-Err : goal.returns-in-Err
returns-in-Err c =
    not_found c.args.paths.now c.args.path.now _ c.in-Err.ensures.position
