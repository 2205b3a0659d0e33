use Rattle.std.proofs.Common.{◌≡◌, ◌∙◌, ◌++◌, [], ap, codes}
use Rattle.it_strict.specs.FoundText.{untied_sentence}
use Rattle.it_verify_command.proofs.shown_found.shown_untied.Goals as goal

pub returns : goal.returns
returns c =
    let path = c.args.path.now in
    let document : c.in_ok-copy.field-0 ≡ codes "policy" = c.in_ok-copy.ensures in
    let name : c.in_ok-copy-2.field-0 ≡ codes "untied-file" = c.in_ok-copy-2.ensures in
    let at : c.from.result ≡ [] = c.from.ensures ∙ c.new.ensures.items in
    let place : c.from-2.result ≡ codes "/deliver" = c.from-2.ensures
    ∙ c.in_ok-place.ensures.items ∙ c.as_bytes.ensures.value in
    let sentence : c.from-3.result ≡ untied_sentence path = c.from-3.ensures
    ∙ c.in_ok-push_untied_sentence.ensures
    ∙ ap (λ text. text ++ untied_sentence path) c.new-sentence.ensures.items in
    λ i. record {
      document = document i;
      at = at i;
      name = name i;
      place = place i;
      sentence = sentence i;
    }
