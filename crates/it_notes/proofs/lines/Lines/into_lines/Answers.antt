use Rattle.std.proofs.Common.{◌∙◌, ◌++◌, ◌∷◌, [], Global, Vec, ap, ℕ}
use Rattle.it_notes.specs.ShownLines.{further_line}
use Rattle.it_notes.proofs.Holding.{further, shown_few, shown_more}
use Rattle.it_notes.proofs.lines.Lines.into_lines.Goals as goal
use Rattle.it_notes.proofs.lines.Lines.into_lines.Goals.{else-count-gt-MOST}
use Rattle.it_notes.proofs.lines.Lines.into_lines.Goals.{
  then-count-gt-MOST+in_ok-rest+in_ok-push,
}

pub returns : goal.returns
returns c = λ all h. elim c.if-count-gt-MOST.branch [
  | then-count-gt-MOST+in_ok-rest+in_ok-push w ↦ rw w.lines-is (shown_more all c.args.self h
      w.if-count-gt-MOST.true w.push.new.self w.into_bytes.result
      (w.in_ok-push.ensures.items ∙ ap (λ l. l ++ w.into_bytes.result ∷ []) w.truncate.ensures.items)
      (ap (λ (line : Vec ℕ Global). line.items) w.into_bytes.ensures.value ∙ w.in_ok-rest.ensures.ok
      ∙ ap further_line (further c.args.self.count w.if-count-gt-MOST.true)))
  | else-count-gt-MOST w ↦ rw w.lines-is (shown_few all c.args.self h w.if-count-gt-MOST.false)
]
