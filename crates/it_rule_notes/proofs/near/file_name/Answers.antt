use Rattle.std.proofs.Common.{[], ◌∷◌, ◌++◌, inl, inr, lit<, refl}
use Rattle.it_rule_notes.proofs.LastParts.{around_last}
use Rattle.it_rule_notes.proofs.near.file_name.Goals as goal

pub returns-in-Some : goal.returns-in-Some
returns-in-Some c =
    let folder = c.in-Some.field-0-0.now in
    record {
      front = folder ++ 47 ∷ [];
      path_is = around_last 47 (lit< tt) c.args.path.now folder c.in-Some.name.now
          c.in-Some.ensures.cases;
      is_front = inr (folder, inl refl);
    }
