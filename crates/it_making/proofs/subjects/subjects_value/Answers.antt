use Rattle.std.proofs.Common.{rules, ◌≡◌, [], ◌∷◌, ◌++◌, map, string_bytes, sym, ap, ◌∙◌}
use Rattle.std.proofs.Common.{append_assoc, append-nil}
use Rattle.std.proofs.lemmas.List.{map-append}
use Rattle.std.specs.FinMap.{entries}
use Rattle.serde_json.specs.Data.{array}
use Rattle.serde_json.specs.View.{items_of, view}
use Rattle.it_digest.specs.Artifacts.{path_entries}
use Rattle.it_digest.specs.Digest.{IsDigestSet}
use Rattle.it_digest.specs.declared.compare.DigestSet.{DigestSet}
use Rattle.it_making.specs.ArtifactDocuments.{digest_set_document}
use Rattle.it_making.specs.StatementOutput.{subject_document}
use Rattle.it_making.proofs.StatementWritten.{subjects_read_back}
use Rattle.it_making.proofs.TablesWritten.{Entry, all_more}
use Rattle.it_making.proofs.subjects.subjects_value.Goals as goal

pub loop-path-init : goal.loop-path-init
loop-path-init c = ([], search rules, search rules, tt)

pub loop-path-preserved : goal.loop-path-preserved
loop-path-preserved c =
    let l = c.loop-path in
    let done = l.invariant.0 in
    let e : Entry DigestSet = (string_bytes c.in-Some.path.now, c.in-Some.digests.now) in
    let left = path_entries c.next.new.self in
    let value = c.in_ok-subject_value.field-0 in
    let all : entries c.args.artifacts.now ≡ done ++ e ∷ left = l.invariant.1
    ∙ ap (λ es. done ++ path_entries es) c.in-Some.ensures.steps in
    let document : view value ≡ subject_document e =
    (rw c.set.ensures at c.in_ok-subject_value.ensures.document)
    ∙ ap (λ name. subject_document (name, e.1)) c.as_str.ensures.value in
    let more : map view c.push.new.self.items ≡ map subject_document (done ++ e ∷ []) =
    ap (map view) c.in_ok-push.ensures.items ∙ map-append view l.subjects.items (value ∷ [])
    ∙ ap (λ ds. ds ++ view value ∷ []) l.invariant.2
    ∙ ap (λ d. map subject_document done ++ d ∷ []) document
    ∙ sym (map-append subject_document done (e ∷ [])) in (
      done ++ e ∷ [],
      all ∙ sym (append_assoc done (e ∷ []) left),
      more,
      all_more (λ f. IsDigestSet (digest_set_document f.1) f.1) done e l.invariant.3
          (rw c.set.ensures at c.in_ok-subject_value.ensures.reads_back),
    )

pub returns-clause-document : goal.returns-clause-document
returns-clause-document c =
    let l = c.loop-path in
    let whole : entries c.args.artifacts.now ≡ l.invariant.0 = l.invariant.1
    ∙ ap (λ es. l.invariant.0 ++ path_entries es) c.in-None.ensures.steps.0
    ∙ append-nil l.invariant.0 in
    c.from.ensures ∙ ap (λ ds. array (items_of ds)) (l.invariant.2
    ∙ ap (map subject_document) (sym whole))

pub returns-clause-reads_back : goal.returns-clause-reads_back
returns-clause-reads_back c =
    let l = c.loop-path in
    let whole : entries c.args.artifacts.now ≡ l.invariant.0 = l.invariant.1
    ∙ ap (λ es. l.invariant.0 ++ path_entries es) c.in-None.ensures.steps.0
    ∙ append-nil l.invariant.0 in
    subjects_read_back c.args.artifacts.now (rw whole l.invariant.3)
