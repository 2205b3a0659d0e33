use Rattle.std.proofs.Common.{◌∙◌, ap, [], List, Option, unwrap_or}
use Rattle.std.proofs.lemmas.Result.{IfOk-weaker}
use Rattle.clap.specs.Words.{Text}
use Rattle.it_words.proofs.words.values.Values.any.Goals as goal

pub returns-in-Some : goal.returns-in-Some
returns-in-Some c = IfOk-weaker c.texts.result _ _
    (λ texts is. is ∙ ap (λ (given : Option (List Text)). unwrap_or given []) c.in-Some.ensures)
    c.texts.ensures

pub returns-in-None : goal.returns-in-None
returns-in-None c = c.from.ensures ∙ c.new.ensures.items
    ∙ ap (λ (given : Option (List Text)). unwrap_or given []) c.in-None.ensures
