use Rattle.std.proofs.Common.{◌≡◌, ◌∙◌, ◌++◌, ◌↔◌, Contains, ap, map, string_bytes, subst}
use Rattle.it_files_below.proofs.files_below.files_below.Goals as goal

pub returns : goal.returns
returns g c =
    let told = c.in_ok-find_files.ensures in
    let are : map string_bytes c.find_files.new.files.items ≡ told.0 =
    told.2 ∙ ap (λ files. map string_bytes files ++ told.0) c.new-files.ensures.items in
    record {
      found = told.0;
      holds = told.1;
      same = λ path. subst
          (λ found. Contains (map string_bytes c.put_in_order.new.paths.items) path
          ↔ Contains found path) are (c.put_in_order.ensures.same path);
      rises = c.put_in_order.ensures.rises;
    }
