use Rattle.std.proofs.Common.{◌≡◌, ◌∙◌, ℕ, List, ◌∷◌, Option, Some, None, Bor, ap, sym}
use Rattle.std.specs.Str.Lines.{lines}
use Rattle.std.proofs.lemmas.Iterator.Splits.{YieldsList-from_lines}
use Rattle.it_base.specs.Finds.{FindsAs}
use Rattle.it_pem.specs.Label.{HasLabel, begin_line}
use Rattle.it_pem.specs.inside.Lines.{Gives}
use Rattle.it_pem.proofs.Walks.{gives_more}
use Rattle.it_pem.proofs.label.label_of.Goals as goal

-- the label of the first line is the text's
of_first : (text line : List ℕ) (rest : List (List ℕ)) (found : Option (Bor (List ℕ)))
    → lines text ≡ line ∷ rest
    → FindsAs (λ label. label.now) (λ label. line ≡ begin_line label) found
    → FindsAs (λ label. label.now) (HasLabel text) found
of_first text line rest None is finds = λ label has.
    finds label (let same : line ∷ rest ≡ begin_line label ∷ has.rest = sym is ∙ has.begins in cc)
of_first text line rest (Some label) is finds = record {
  rest = rest;
  begins = is ∙ ap (λ first. first ∷ rest) finds;
}

pub returns-in-Some : goal.returns-in-Some
returns-in-Some c =
    let text = c.args.text.now in
    let gives : Gives c.lines.result (lines text) =
    (YieldsList-from_lines text c.lines.ensures.rest).runs in
    let next = gives_more c.lines.result c.next.new.self c.in-Some.line (lines text) gives
    (rw c.in-Some.is at c.next.ensures.steps) in
    of_first text c.in-Some.line.now next.0 c.label_in.result next.1 c.label_in.ensures
