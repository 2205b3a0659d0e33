use Rattle.std.proofs.Common.{◌∙◌, ◌++◌, ℕ, List, ap, append_assoc, codes}
use Rattle.it_root_notes.specs.Front.{front_text, place_text}
use Rattle.it_root_notes.proofs.front.push_front.Goals as goal

pub returns : goal.returns
unfolding front_text
returns c =
    let start = c.args.text.now.items in
    let list = c.args.list.now in
    let first : List ℕ = codes "the trusted root's " in
    let place : List ℕ = place_text c.args.place in
    let named = rw c.as_bytes.ensures.value at c.in_ok-extend_from_slice-2.ensures.items in
    c.in_ok-push_place.ensures
    ∙ ap (λ t. t ++ place)
    (named ∙ ap (λ t. t ++ list) c.in_ok-extend_from_slice.ensures.items
    ∙ append_assoc start first list) ∙ append_assoc start (first ++ list) place
