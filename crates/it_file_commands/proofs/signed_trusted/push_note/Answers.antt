use Rattle.std.proofs.Common.{[], ◌∷◌, ◌++◌, ◌∙◌, List, ℕ, ap, append_assoc, codes}
use Rattle.it_vouches.specs.Phrases.{phrase_of}
use Rattle.it_file_commands.proofs.signed_trusted.push_note.Goals as goal

pub returns : goal.returns
returns c =
    let front = codes "envelope: a bundle that vouches for nobody: " in
    let phrase = phrase_of c.args.bundle.now.shortfall in
    let end : List ℕ = 10 ∷ [] in
    c.in_ok-push.ensures.items
    ∙ ap (λ l. l ++ end) (c.in_ok-push_phrase.ensures
    ∙ ap (λ l. l ++ phrase) c.in_ok-extend_from_slice.ensures.items)
    ∙ append_assoc (c.args.text.now.items ++ front) phrase end
    ∙ append_assoc c.args.text.now.items front (phrase ++ end)
