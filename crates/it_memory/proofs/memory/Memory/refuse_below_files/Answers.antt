use Rattle.std.proofs.Common.{◌≡◌, ◌∙◌, ℕ, List, All, Bor, subst, take}
use Rattle.std.proofs.lemmas.List.{take_all}
use Rattle.it_memory.specs.Files.{HasBelow}
use Rattle.it_memory.proofs.Ordered.{of_each_file}
use Rattle.it_memory.proofs.memory.Memory.refuse_below_files.Goals as goal

pub returns : goal.returns
returns c =
    let files = c.self.inside.files.items in
    let paths = c.self.inside.paths.items in
    let all = c.as_slice-paths.result.now in
    let whole : take c.loop-path.path-index all ≡ paths =
    take_all c.loop-path.path-index all c.loop-path-test.false ∙ c.as_slice-paths.ensures.value in
    let each = of_each_file files paths c.self.invariant (λ path. ¬ HasBelow c.args.self.now path)
    (subst (All (λ (path : Bor (List ℕ)). ¬ HasBelow c.args.self.now path.now)) whole
    c.loop-path.invariant) in
    subst (All (λ (file : List ℕ × List ℕ). ¬ HasBelow c.args.self.now file.0)) c.self.view_is each
