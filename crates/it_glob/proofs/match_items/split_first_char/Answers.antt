use Rattle.std.proofs.Common.{sym, ◌∙◌}
use Rattle.std.proofs.lemmas.Str.{chars_past_char}
use Rattle.it_glob.proofs.match_items.split_first_char.Goals as goal

pub returns : goal.returns
returns c =
    rw c.as_str.ensures (chars_past_char _ _ _ c.utf8.text (sym c.chars-characters.ensures.rest
    ∙ c.in_ok-first.ensures.steps.0))
