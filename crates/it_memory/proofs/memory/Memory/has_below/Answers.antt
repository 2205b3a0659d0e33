use Rattle.std.proofs.Common.{◌∙◌, subst, sym}
use Rattle.std.proofs.lemmas.Bool.{lt-ltb, ltb-true}
use Rattle.it_rules.specs.Ranges.{IsFrontRange}
use Rattle.it_memory.specs.Files.{HasBelow}
use Rattle.it_memory.proofs.Ordered.{below_found, below_there}
use Rattle.it_memory.proofs.memory.Memory.has_below.Goals as goal

pub returns : goal.returns
returns c =
    let start = c.front_range-start.result.0 in
    let end = c.front_range-start.result.1 in
    let front = c.as_str.result.now in
    let files = c.self.inside.files.items in
    let paths = c.self.inside.paths.items in
    let folder = c.args.path.now in
    let range = subst (λ paths. IsFrontRange paths front start end) c.as_slice.ensures.value
    c.front_range-start.ensures in
    let is = c.as_str.ensures.value ∙ c.in_ok-front.ensures in (
      λ yes. subst (λ files. HasBelow files folder) c.self.view_is
          (below_found files paths c.self.invariant front folder start end is range
          (ltb-true start end yes)),
      λ below. lt-ltb start end (below_there files paths c.self.invariant front folder start end is
          range (subst (λ files. HasBelow files folder) (sym c.self.view_is) below)),
    )
