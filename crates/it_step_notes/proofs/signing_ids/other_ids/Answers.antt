use Rattle.std.proofs.Common.{◌≡◌, ◌∙◌, ℕ, List, [], ◌∷◌, ◌++◌, map, true, string_bytes, sym, ap}
use Rattle.std.proofs.Common.{append_assoc, append-nil, subst}
use Rattle.std.proofs.lemmas.List.{map-append}
use Rattle.std.specs.FinMap.{entries}
use Rattle.it_base.specs.Table.{Named, named_entries}
use Rattle.it_dsse.specs.Signed.{AreThose}
use Rattle.it_dsse.specs.declared.key_object.KeyObject.{KeyObject}
use Rattle.it_dsse.proofs.Keeping.{keep_last, pass_last}
use Rattle.it_step_notes.specs.Signing.{IsNamedSigner}
use Rattle.it_step_notes.proofs.signing_ids.other_ids.Goals as goal

pub loop-id-init : goal.loop-id-init
loop-id-init g c = ([], cc, c.new-ids.ensures.items)

-- one entry more is gone by
one_named : (keys : Named KeyObject) (done : List (List ℕ × KeyObject)) (e : List ℕ × KeyObject)
    (before left : List (List ℕ × KeyObject)) → entries keys ≡ done ++ before → before ≡ e ∷ left
    → entries keys ≡ (done ++ e ∷ []) ++ left
one_named keys done e before left all step =
    all ∙ ap (λ es. done ++ es) step ∙ sym (append_assoc done (e ∷ []) left)

pub loop-id-preserved-in_ok-push : goal.loop-id-preserved-in_ok-push
loop-id-preserved-in_ok-push g c =
    let panel = g.C.Checks.panel c.args.checks.now in
    let P = IsNamedSigner panel c.args.at.now.layout.now c.args.envelope.now in
    let at = c.loop-id.invariant in
    let e : List ℕ × KeyObject = (string_bytes c.in-Some.id.now, c.in-Some.field-0-1.now) in
    let name = λ (x : List ℕ × KeyObject). x.0 in
    let all = one_named c.args.at.now.layout.now.keys at.0 e
    (named_entries c.loop-id.id-iterator) (named_entries c.next.new.self) at.1
    (ap named_entries c.in-Some.ensures.steps) in
    let names = map-append name at.0 (e ∷ []) in
    let signs : P e.0 = rw c.as_str.ensures.value at
    (c.in_ok-signed.ensures.0 c.if-signed.true) in
    let same : c.in_ok-copy.field-0 ≡ e.0 =
    c.in_ok-copy.ensures ∙ c.as_str-then-signed.ensures.value in (
      at.0 ++ e ∷ [],
      all,
      rw (c.in_ok-push.ensures.items, same, names)
          (keep_last P (map name at.0) c.loop-id.ids.items e.0 at.2 signs),
    )

pub loop-id-preserved : goal.loop-id-preserved
loop-id-preserved g c =
    let panel = g.C.Checks.panel c.args.checks.now in
    let P = IsNamedSigner panel c.args.at.now.layout.now c.args.envelope.now in
    let at = c.loop-id.invariant in
    let e : List ℕ × KeyObject = (string_bytes c.in-Some.id.now, c.in-Some.field-0-1.now) in
    let name = λ (x : List ℕ × KeyObject). x.0 in
    let all = one_named c.args.at.now.layout.now.keys at.0 e
    (named_entries c.loop-id.id-iterator) (named_entries c.next.new.self) at.1
    (ap named_entries c.in-Some.ensures.steps) in
    let names = map-append name at.0 (e ∷ []) in
    let refuses : ¬ P e.0 = λ h. (let is =
    c.in_ok-signed.ensures.1 (rw c.as_str.ensures.value h) in
    cc (is, c.if-signed.false)) in (
      at.0 ++ e ∷ [],
      all,
      rw names (pass_last P (map name at.0) c.loop-id.ids.items e.0 at.2 refuses),
    )

pub returns : goal.returns
returns g c =
    let panel = g.C.Checks.panel c.args.checks.now in
    let P = IsNamedSigner panel c.args.at.now.layout.now c.args.envelope.now in
    let at = c.loop-id.invariant in
    let name = λ (x : List ℕ × KeyObject). x.0 in
    let whole : entries c.args.at.now.layout.now.keys ≡ at.0 = at.1
    ∙ ap (λ es. at.0 ++ named_entries es) c.in-None.ensures.steps.0 ∙ append-nil at.0 in
    subst (λ names. AreThose P names c.loop-id.ids.items) (ap (map name) (sym whole)) at.2
