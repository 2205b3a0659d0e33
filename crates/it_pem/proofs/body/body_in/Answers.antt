use Rattle.std.proofs.Common.{◌∙◌, sym}
use Rattle.std.specs.Str.Lines.{lines}
use Rattle.std.proofs.lemmas.Iterator.Splits.{YieldsList-from_lines}
use Rattle.it_pem.specs.inside.Lines.{Gives}
use Rattle.it_pem.proofs.Walks.{differs, gives_more, is_same, no_first, other_first, same_first}
use Rattle.it_pem.proofs.body.body_in.Goals as goal

pub returns-in_default : goal.returns-in_default
returns-in_default c =
    let text = c.args.text.now in
    let gives : Gives c.lines-lines.result (lines text) = (YieldsList-from_lines text c.lines-lines.ensures.rest).runs in
    no_first c.lines-lines.result c.next.new.self (lines text) gives (rw c.in_default.is at c.next.ensures.steps)

pub returns-then-ne : goal.returns-then-ne
returns-then-ne c =
    let text = c.args.text.now in
    let gives : Gives c.lines-lines.result (lines text) = (YieldsList-from_lines text c.lines-lines.ensures.rest).runs in
    let next = gives_more c.lines-lines.result c.next.new.self c.in-Some.first (lines text) gives
    (rw c.in-Some.is at c.next.ensures.steps) in
    other_first c.in-Some.first.now next.0 (lines text) next.1 (differs _ (sym c.ne.ensures ∙ c.if-ne.true))

pub returns : goal.returns
returns c =
    let text = c.args.text.now in
    let gives : Gives c.lines-lines.result (lines text) = (YieldsList-from_lines text c.lines-lines.ensures.rest).runs in
    let next = gives_more c.lines-lines.result c.next.new.self c.in-Some.first (lines text) gives
    (rw c.in-Some.is at c.next.ensures.steps) in
    c.joined_to_end.ensures next.0 next.2
    ∙ same_first c.in-Some.first.now next.0 (lines text) next.1 (is_same _ (sym c.ne.ensures ∙ c.if-ne.false))
