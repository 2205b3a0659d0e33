use Rattle.std.proofs.Common.{◌≡◌, ◌∙◌, ℕ, List, [], ◌∷◌, ◌++◌, map, string_bytes, refl, sym, ap}
use Rattle.std.proofs.Common.{append_assoc, append-nil}
use Rattle.std.specs.FinMap.{entries}
use Rattle.std.proofs.lemmas.List.{map-append}
use Rattle.it_base.specs.Table.{named_entries}
use Rattle.it_step_evidence.proofs.listed.names_and_places.Goals as goal

abbrev name_of : List ℕ × ℕ → List ℕ
name_of entry = entry.0

abbrev place_of : List ℕ × ℕ → ℕ
place_of entry = entry.1

pub loop-name-init : goal.loop-name-init
loop-name-init c = record {
  done = [];
  all = cc;
  names = c.new-names.ensures.items;
  places = c.new-places.ensures.items;
}

pub loop-name-preserved : goal.loop-name-preserved
loop-name-preserved c =
    let so_far = c.loop-name.invariant in
    let entry : List ℕ × ℕ = (string_bytes c.in-Some.name.now, c.in-Some.place.now) in
    let left = named_entries c.next.new.self in
    let all : entries c.args.table.now ≡ so_far.done ++ entry ∷ left = so_far.all
    ∙ ap (λ es. so_far.done ++ named_entries es) c.in-Some.ensures.steps in
    record {
      done = so_far.done ++ entry ∷ [];
      all = all ∙ sym (append_assoc so_far.done (entry ∷ []) left);
      names = rw (
        c.in_ok-push.ensures.items,
        so_far.names,
        c.in_ok-copy.ensures,
        c.as_str.ensures.value,
        map-append name_of so_far.done (entry ∷ []),
      ) refl;
      places = rw (
        c.in_ok-push-2.ensures.items,
        so_far.places,
        map-append place_of so_far.done (entry ∷ []),
      ) refl;
    }

pub returns : goal.returns
returns c =
    let so_far = c.loop-name.invariant in
    let whole : entries c.args.table.now ≡ so_far.done = so_far.all
    ∙ ap (λ es. so_far.done ++ named_entries es) c.in-None.ensures.steps.0
    ∙ append-nil so_far.done in
    (so_far.names ∙ ap (map name_of) (sym whole), so_far.places ∙ ap (map place_of) (sym whole))
