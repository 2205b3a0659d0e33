use Rattle.std.proofs.Common.{◌≡◌, ◌∙◌, ℕ, List, [], ◌∷◌, ◌++◌, string_bytes, ap, subst, sym}
use Rattle.std.proofs.Common.{append_assoc, append-nil}
use Rattle.std.specs.FinMap.{entries}
use Rattle.std.specs.List.{AllZip}
use Rattle.std.proofs.lemmas.Slice.Zip.{all_zipped_more}
use Rattle.it_base.specs.Table.{named_entries}
use Rattle.it_dsse.specs.declared.key_object.KeyObject.{KeyObject}
use Rattle.it_rule_notes.specs.Owner.{IsOnOwner}
use Rattle.it_rule_notes.proofs.Owners.{each_told}
use Rattle.it_rule_notes.proofs.owner_note.owner_notes.Goals as goal

pub loop-id-init : goal.loop-id-init
loop-id-init g c = ([], cc, rw c.new-notes.ensures.items tt)

pub loop-id-preserved : goal.loop-id-preserved
loop-id-preserved g c =
    let panel = g.C.Checks.panel c.args.checks.now in
    let l = c.loop-id in
    let done = l.invariant.0 in
    let owner : List ℕ × KeyObject = (string_bytes c.in-Some.id.now, c.in-Some.object.now) in
    let left = named_entries c.next.new.self in
    let all : entries c.args.owners.now ≡ done ++ owner ∷ left = l.invariant.1
    ∙ ap (λ es. done ++ named_entries es) c.in-Some.ensures.steps in (
      done ++ owner ∷ [],
      all ∙ sym (append_assoc done (owner ∷ []) left),
      rw c.in_ok-push.ensures.items
          (all_zipped_more (IsOnOwner panel c.args.envelope.now) done l.notes.items owner
          c.in_ok-owner_note.field-0 l.invariant.2
          (rw c.as_str.ensures.value at c.in_ok-owner_note.ensures)),
    )

pub returns-clause-each : goal.returns-clause-each
returns-clause-each g c =
    let panel = g.C.Checks.panel c.args.checks.now in
    let l = c.loop-id in
    let whole : entries c.args.owners.now ≡ l.invariant.0 = l.invariant.1
    ∙ ap (λ es. l.invariant.0 ++ named_entries es) c.in-None.ensures.steps.0
    ∙ append-nil l.invariant.0 in
    subst (λ all. AllZip (IsOnOwner panel c.args.envelope.now) all l.notes.items) (sym whole)
    l.invariant.2

pub returns-clause-told : goal.returns-clause-told
returns-clause-told g c =
    let panel = g.C.Checks.panel c.args.checks.now in
    each_told panel c.args.envelope.now c.args.owners.now c.loop-id.notes.items
    (returns-clause-each g c)
