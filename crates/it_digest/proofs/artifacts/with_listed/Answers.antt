use Rattle.std.proofs.Common.{rules, ◌≡◌, [], ◌∷◌, ◌++◌, string_bytes, sym, ap, ◌∙◌, subst}
use Rattle.std.proofs.Common.{append_assoc, append-nil, None, Some}
use Rattle.std.specs.FinMap.{from_entries, get, get-from_entries, insert}
use Rattle.std.proofs.lemmas.Cmp.{nat_list_cmp_total}
use Rattle.std.specs.List.Sorted.{IsStrictlySortedBy}
use Rattle.std.specs.Map.{keys_of}
use Rattle.std.specs.String.{string_cmp}
use Rattle.it_digest.specs.Artifacts.{path_entries}
use Rattle.it_digest.specs.Listed.{AreTogether}
use Rattle.it_digest.proofs.ArtifactsLemmas.{Entry, find_before, from_entries-more}
use Rattle.it_digest.proofs.ArtifactsLemmas.{path_cmp}
use Rattle.it_digest.proofs.ListedLemmas.{together_more, together_none, with_listed_digests}
use Rattle.it_digest.proofs.artifacts.with_listed.Goals as goal
use Rattle.it_digest.proofs.artifacts.with_listed.Goals.{in-Some-get, in-None-get}

pub loop-path-init : goal.loop-path-init
loop-path-init c = ([], search rules, together_none c.args.files)

pub loop-path-preserved : goal.loop-path-preserved
loop-path-preserved c =
    let l = c.loop-path in
    let done = l.invariant.0 in
    let e : Entry = (c.in-Some.path.now, c.in-Some.listed.now) in
    let left = c.next.new.self in
    let all : c.args.by_path.now.entries ≡ done ++ e ∷ left = l.invariant.1
    ∙ ap (λ es. done ++ es) c.in-Some.ensures.steps in
    let sorted = subst (λ es. IsStrictlySortedBy string_cmp (keys_of es)) all
    c.iter-path-items.ensures.ordered in
    let path = string_bytes e.0 in
    let before = from_entries {R = path_cmp} (path_entries done) in
    let is_new : get before path ≡ None = get-from_entries nat_list_cmp_total
    (path_entries done) path
    ∙ find_before done e left sorted in
    let value : c.match-get.digests ≡ with_listed_digests (get l.together path) e.1 =
    elim c.match-get.branch [
      | in-Some-get w ↦ w.digests-is ∙ ap (with_listed_digests (Some w.in-Some-get.digests))
          c.set-listed.ensures ∙ ap (λ k. with_listed_digests k e.1)
          (w.in-Some-get.ensures ∙ ap (get l.together) c.deref.ensures)
      | in-None-get w ↦ w.digests-is ∙ c.set-listed.ensures ∙ ap (λ k. with_listed_digests k e.1)
          (w.in-None-get.ensures ∙ ap (get l.together) c.deref.ensures)
    ] in
    let put : c.insert.new.self ≡ insert l.together path
    (with_listed_digests (get l.together path) e.1) = c.in_ok-insert.ensures.ok
    ∙ ap (λ k. insert l.together k c.match-get.digests)
    (c.in_ok-from_str.ensures.ok ∙ c.deref-in-loop-path.ensures)
    ∙ ap (insert l.together path) value in (
      done ++ e ∷ [],
      all ∙ sym (append_assoc done (e ∷ []) left),
      subst (λ m. AreTogether c.args.files m c.insert.new.self)
          (sym (from_entries-more done e left sorted))
          (together_more c.args.files before l.together c.insert.new.self path e.1 l.invariant.2
          is_new
          put),
    )

pub returns : goal.returns
returns c =
    let l = c.loop-path in
    let whole : c.args.by_path.now.entries ≡ l.invariant.0 = l.invariant.1
    ∙ ap (λ es. l.invariant.0 ++ es) c.in-None.ensures.steps.0 ∙ append-nil l.invariant.0 in
    subst (λ es. AreTogether c.args.files (from_entries (path_entries es)) l.together) (sym whole)
    l.invariant.2
