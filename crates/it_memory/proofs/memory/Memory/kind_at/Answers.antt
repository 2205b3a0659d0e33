use Rattle.std.proofs.Common.{ℕ, List, subst}
use Rattle.it_memory.specs.Files.{HasFile}
use Rattle.it_sorted_paths.specs.Order.{IsAt}
use Rattle.it_memory.proofs.Ordered.{file_there}
use Rattle.it_memory.proofs.memory.Memory.kind_at.Goals as goal

pub returns-in-Some : goal.returns-in-Some
returns-in-Some c =
    let path = c.args.path.now in
    let at = subst (λ paths. IsAt paths path c.in-Some.field-0) c.as_slice.ensures.value
    c.in-Some.ensures in
    let found = file_there c.self.inside.files.items c.self.inside.paths.items c.self.invariant
    path c.in-Some.field-0 at in
    subst (λ files. (bytes : List ℕ) × HasFile files path bytes) c.self.view_is found
