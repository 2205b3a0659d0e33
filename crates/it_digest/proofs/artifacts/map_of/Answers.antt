use Rattle.std.proofs.Common.{rules, ◌≡◌, [], ◌∷◌, ◌++◌, string_bytes, sym, ap, ◌∙◌, subst}
use Rattle.std.proofs.Common.{append_assoc, append-nil}
use Rattle.std.specs.FinMap.{from_entries, insert}
use Rattle.std.specs.List.Sorted.{IsStrictlySortedBy}
use Rattle.std.specs.Map.{keys_of}
use Rattle.std.specs.String.{string_cmp}
use Rattle.it_digest.specs.Artifacts.{path_entries}
use Rattle.it_digest.proofs.ArtifactsLemmas.{Entry, from_entries-more}
use Rattle.it_digest.proofs.artifacts.map_of.Goals as goal

pub loop-path-init : goal.loop-path-init
loop-path-init c = ([], search rules, c.new-map.ensures)

pub loop-path-preserved : goal.loop-path-preserved
loop-path-preserved c =
    let l = c.loop-path in
    let done = l.invariant.0 in
    let e : Entry = (c.in-Some.path.now, c.in-Some.digests.now) in
    let left = c.next.new.self in
    let all : c.args.by_path.now.entries ≡ done ++ e ∷ left = l.invariant.1
    ∙ ap (λ es. done ++ es) c.in-Some.ensures.steps in
    let sorted = subst (λ es. IsStrictlySortedBy string_cmp (keys_of es)) all
    c.iter-path-items.ensures.ordered in
    let put = c.in_ok-insert.ensures.ok
    ∙ ap (insert l.map (string_bytes c.in_ok-from_str.field-0)) c.set.ensures
    ∙ ap (λ k. insert l.map k e.1) (c.in_ok-from_str.ensures.ok ∙ c.deref.ensures)
    ∙ ap (λ m. insert m (string_bytes e.0) e.1) l.invariant.2 in (
      done ++ e ∷ [],
      all ∙ sym (append_assoc done (e ∷ []) left),
      put ∙ sym (from_entries-more done e left sorted),
    )

pub returns : goal.returns
returns c =
    let l = c.loop-path in
    let whole : c.args.by_path.now.entries ≡ l.invariant.0 = l.invariant.1
    ∙ ap (λ es. l.invariant.0 ++ es) c.in-None.ensures.steps.0 ∙ append-nil l.invariant.0 in
    l.invariant.2 ∙ ap (λ es. from_entries (path_entries es)) (sym whole)
