-- The parts of a message, one after another.
use Rattle.std.proofs.Common.{◌≡◌, ◌∙◌, ◌<◌, ◌+◌, ◌++◌, ◌∷◌, [], ℕ, List, Bor, ap, get_or, length, map, take}
use Rattle.std.proofs.lemmas.List.{append-nil, map-append, take_more}
use Rattle.std.proofs.lemmas.List.Folds.{concat-append}
use Rattle.std.specs.List.{concat}
use Rattle.it_message.specs.Message.{joined}

abbrev no_part : Bor (List ℕ)
no_part = record { ref_ptr = (0, 0); now = [] }

-- the message so far, with one part more
pub one_part_more : (parts : List (Bor (List ℕ))) (i : ℕ) → i < length parts
    → joined (take (i + 1) parts) ≡ joined (take i parts) ++ (get_or parts i no_part).now
one_part_more parts i below =
    let before = map (λ (part : Bor (List ℕ)). part.now) (take i parts) in
    let part = get_or parts i no_part in
    ap joined (take_more parts i no_part below)
    ∙ ap concat (map-append (λ (p : Bor (List ℕ)). p.now) (take i parts) (part ∷ []))
    ∙ concat-append before (part.now ∷ [])
    ∙ ap (λ last. joined (take i parts) ++ last) (append-nil part.now)
