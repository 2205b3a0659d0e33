use Rattle.std.proofs.Common.{rules, ◌≡◌, T, [], ◌∷◌, ◌++◌, string_bytes, sym, ap, ◌∙◌, subst}
use Rattle.std.proofs.Common.{append_assoc, append-nil}
use Rattle.std.specs.FinMap.{entries, entries_sorted, is_sorted}
use Rattle.serde_json.specs.Data.{object, put}
use Rattle.serde_json.specs.View.{members_view, view}
use Rattle.it_base.specs.Table.{named_entries}
use Rattle.it_base.proofs.TableLemmas.{text_cmp}
use Rattle.it_dsse.specs.declared.key_object.KeyObject.{KeyObject}
use Rattle.it_making.specs.ArtifactDocuments.{entry_members}
use Rattle.it_making.proofs.TablesWritten.{Entry, put_entry_last}
use Rattle.it_key_commands.specs.KeysFile.{key_document}
use Rattle.it_key_commands.proofs.keys_file.keys_value.Goals as goal

pub loop-id-init : goal.loop-id-init
loop-id-init c = ([], search rules, search rules)

pub loop-id-preserved : goal.loop-id-preserved
loop-id-preserved c =
    let l = c.loop-id in
    let done = l.invariant.0 in
    let e : Entry KeyObject = (string_bytes c.in-Some.id.now, c.in-Some.key.now) in
    let left = named_entries c.next.new.self in
    let old = members_view l.members.entries in
    let all : entries c.args.keys.now ≡ done ++ e ∷ left = l.invariant.1
    ∙ ap (λ es. done ++ named_entries es) c.in-Some.ensures.steps in
    let sorted = subst (λ es. T (is_sorted text_cmp es)) all (entries_sorted c.args.keys.now) in
    let more = c.in_ok-put.ensures.ok
    ∙ ap (λ name. put name (view c.in_ok-value.value) old) c.as_str.ensures.value
    ∙ ap (λ d. put e.0 d old) c.in_ok-value.ensures
    ∙ ap (put e.0 (key_document e.1)) l.invariant.2
    ∙ put_entry_last key_document done e left sorted in (
      done ++ e ∷ [],
      all ∙ sym (append_assoc done (e ∷ []) left),
      more,
    )

pub returns : goal.returns
returns c =
    let l = c.loop-id in
    let whole : entries c.args.keys.now ≡ l.invariant.0 = l.invariant.1
    ∙ ap (λ es. l.invariant.0 ++ named_entries es) c.in-None.ensures.steps.0
    ∙ append-nil l.invariant.0 in
    c.from.ensures
    ∙ ap object (l.invariant.2 ∙ ap (entry_members key_document) (sym whole))
