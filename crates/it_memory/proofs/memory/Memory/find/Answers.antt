use Rattle.std.proofs.Common.{subst}
use Rattle.it_memory.specs.Files.{HasFile}
use Rattle.it_sorted_paths.specs.Order.{IsAt}
use Rattle.it_memory.proofs.Ordered.{file_found}
use Rattle.it_memory.proofs.memory.Memory.find.Goals as goal

pub returns-in-Some-clause-ok : goal.returns-in-Some-clause-ok
returns-in-Some-clause-ok c =
    let file = c.index.result.now in
    let at = subst (λ paths. IsAt paths c.args.path.now c.in-Some.place) c.as_slice.ensures.value
    c.in-Some.ensures in
    subst (λ files. HasFile files c.args.path.now file.bytes.now) c.self.view_is
    (file_found c.self.inside.files.items c.self.inside.paths.items c.self.invariant
    c.args.path.now c.in-Some.place file at c.index.ensures)
