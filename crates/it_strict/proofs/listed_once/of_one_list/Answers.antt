use Rattle.std.proofs.Common.{◌≡◌, ◌∙◌, ◌++◌, ◌∷◌, [], ℕ, List, append-nil, append_assoc, ap}
use Rattle.std.proofs.Common.{filter_map, string_bytes, sym}
use Rattle.std.specs.FinMap.{entries}
use Rattle.std.specs.List.{cons_option}
use Rattle.std.proofs.lemmas.List.Elements.{filter_map-append}
use Rattle.it_digest.specs.Artifacts.{path_entries}
use Rattle.it_digest.specs.declared.compare.DigestSet.{DigestSet}
use Rattle.it_strict.specs.inside.OneList.{once_in}
use Rattle.it_strict.proofs.listed_once.of_one_list.Goals as goal

pub loop-path-init : goal.loop-path-init
loop-path-init c = (
  [],
  sym (ap path_entries c.into_iter-path-iterator.ensures.into_iter_gives
      ∙ c.iter-path-items.ensures),
  c.new-found.ensures.items,
)

pub loop-path-preserved : goal.loop-path-preserved
loop-path-preserved c =
    let file : List ℕ × DigestSet = (string_bytes c.in-Some.path.now, c.in-Some.digests.now) in
    let inv = c.loop-path.invariant in
    let left = path_entries c.next.new.self in
    let once : c.in_ok-once.once ≡ once_in file =
    (rw c.set.ensures at c.in_ok-once.ensures)
    ∙ ap (λ path. once_in (path, file.1)) c.as_str.ensures.value in (
      inv.0 ++ file ∷ [],
      inv.1 ∙ ap (λ es. inv.0 ++ path_entries es) c.in-Some.ensures.steps
          ∙ sym (append_assoc inv.0 (file ∷ []) left),
      c.in_ok-push_some.ensures ∙ (λ i. inv.2 i ++ cons_option (once i) [])
          ∙ sym (filter_map-append once_in inv.0 (file ∷ [])),
    )

pub returns : goal.returns
returns c =
    let inv = c.loop-path.invariant in
    let whole : entries c.args.delivered.now ≡ inv.0 =
    inv.1 ∙ ap (λ es. inv.0 ++ path_entries es) c.in-None.ensures.steps.0 ∙ append-nil inv.0 in
    inv.2 ∙ ap (filter_map once_in) (sym whole)
