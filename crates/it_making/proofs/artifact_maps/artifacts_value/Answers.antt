use Rattle.std.proofs.Common.{rules, ◌≡◌, T, [], ◌∷◌, ◌++◌, string_bytes, refl, sym, ap, ◌∙◌, subst}
use Rattle.std.proofs.Common.{append_assoc, append-nil}
use Rattle.std.specs.FinMap.{entries, entries_sorted, is_sorted}
use Rattle.serde_json.specs.Data.{object, put}
use Rattle.serde_json.specs.View.{members_view, view}
use Rattle.it_base.proofs.TableLemmas.{text_cmp}
use Rattle.it_digest.specs.Artifacts.{path_entries}
use Rattle.it_digest.specs.Digest.{IsDigestSet}
use Rattle.it_digest.specs.declared.compare.DigestSet.{DigestSet}
use Rattle.it_making.specs.ArtifactDocuments.{digest_set_document, entry_members}
use Rattle.it_making.proofs.TablesWritten.{Entry, all_more, put_entry_last, table_reads_back}
use Rattle.it_making.proofs.artifact_maps.artifacts_value.Goals as goal

pub loop-path-init : goal.loop-path-init
loop-path-init c = ([], search rules, search rules, tt)

pub loop-path-preserved : goal.loop-path-preserved
loop-path-preserved c =
    let l = c.loop-path in
    let done = l.invariant.0 in
    let e : Entry DigestSet = (string_bytes c.in-Some.path.now, c.in-Some.digests.now) in
    let left = path_entries c.next.new.self in
    let old = members_view l.members.entries in
    let document = digest_set_document e.1 in
    let all : entries c.args.artifacts.now ≡ done ++ e ∷ left = l.invariant.1
    ∙ ap (λ es. done ++ path_entries es) c.in-Some.ensures.steps in
    let sorted = subst (λ es. T (is_sorted text_cmp es)) all
    (entries_sorted c.args.artifacts.now) in
    let more = c.in_ok-put.ensures.ok
    ∙ ap (λ name. put name (view c.in_ok-value.value) old) c.as_str.ensures.value
    ∙ ap (λ d. put e.0 d old) (rw c.set.ensures at c.in_ok-value.ensures.document)
    ∙ ap (put e.0 document) l.invariant.2
    ∙ put_entry_last digest_set_document done e left sorted in (
      done ++ e ∷ [],
      all ∙ sym (append_assoc done (e ∷ []) left),
      more,
      all_more (λ f. IsDigestSet (digest_set_document f.1) f.1) done e l.invariant.3
          (rw c.set.ensures at c.in_ok-value.ensures.reads_back),
    )

pub returns-clause-document : goal.returns-clause-document
returns-clause-document c =
    let l = c.loop-path in
    let whole : entries c.args.artifacts.now ≡ l.invariant.0 = l.invariant.1
    ∙ ap (λ es. l.invariant.0 ++ path_entries es) c.in-None.ensures.steps.0
    ∙ append-nil l.invariant.0 in
    c.from.ensures
    ∙ ap object (l.invariant.2 ∙ ap (entry_members digest_set_document) (sym whole))

pub returns-clause-reads_back : goal.returns-clause-reads_back
returns-clause-reads_back c =
    let l = c.loop-path in
    let whole : entries c.args.artifacts.now ≡ l.invariant.0 = l.invariant.1
    ∙ ap (λ es. l.invariant.0 ++ path_entries es) c.in-None.ensures.steps.0
    ∙ append-nil l.invariant.0 in
    table_reads_back IsDigestSet digest_set_document (λ _. refl) c.args.artifacts.now
    (rw whole l.invariant.3)
