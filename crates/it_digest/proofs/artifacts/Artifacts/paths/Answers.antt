use Rattle.std.proofs.Common.{◌∙◌, sym, ap, map, string_bytes, List, ℕ}
use Rattle.std.specs.FinMap.{keys}
use Rattle.it_base.proofs.TableLemmas.{entries-named_entries}
use Rattle.it_digest.specs.declared.compare.DigestSet.{DigestSet}
use Rattle.it_digest.proofs.ArtifactsLemmas.{keys-path_entries, IsStrictlySortedBy-string_bytes}
use Rattle.it_digest.proofs.artifacts.Artifacts.paths.Goals as goal

pub returns-clause-paths : goal.returns-clause-paths
returns-clause-paths c =
    let es = c.as_map.result.now.entries in
    ap (map string_bytes) c.keys.ensures.rest ∙ keys-path_entries es
    ∙ ap (map (λ (e : List ℕ × DigestSet). e.0))
    (sym (entries-named_entries es c.as_map.ensures.ordered))
    ∙ ap (λ m. keys m) (c.as_map.ensures.is ∙ c.self.view_is)

pub returns-clause-ordered : goal.returns-clause-ordered
returns-clause-ordered c =
    rw c.keys.ensures.rest (IsStrictlySortedBy-string_bytes _ c.as_map.ensures.ordered)
