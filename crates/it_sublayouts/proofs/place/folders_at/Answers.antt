use Rattle.std.proofs.Common.{◌≡◌, ◌∙◌, ◌+◌, ◌++◌, ◌∷◌, [], ap, string_bytes, sym, take}
use Rattle.std.proofs.lemmas.List.{map-append, take_more}
use Rattle.it_chain.specs.Sublayouts.{folder_name}
use Rattle.it_sublayouts.specs.Counted.{Place, folders_of}
use Rattle.it_sublayouts.proofs.place.folders_at.Goals as goal

pub loop-step-preserved : goal.loop-step-preserved
loop-step-preserved c =
    let i = c.loop-step.step-index in
    let places = c.args.place.now in
    let item : Place = c.loop-step-item.result in
    let name = string_bytes c.in_ok-folder_name.field-0 in
    let named : name ≡ folder_name item.0 item.1 =
    rw (c.as_str.ensures, c.as_str-in-loop-step.ensures) at c.in_ok-folder_name.ensures in
    let one_more : take (i + 1) places ≡ take i places ++ item ∷ [] =
    take_more places i item c.loop-step-test.true
    ∙ ap (λ p. take i places ++ p ∷ []) (sym c.loop-step-item.is) in
    rw c.in_ok-push.ensures.items
    (map-append string_bytes c.loop-step.folders.items (c.in_ok-folder_name.field-0 ∷ [])
    ∙ ap (λ names. names ++ name ∷ []) c.loop-step.invariant
    ∙ ap (λ n. folders_of (take i places) ++ n ∷ []) named
    ∙ sym (ap folders_of one_more
    ∙ map-append (λ (p : Place). folder_name p.0 p.1) (take i places) (item ∷ [])))
