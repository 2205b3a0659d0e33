use Rattle.std.proofs.Common.{◌∙◌, ◌++◌, codes, ap, append_assoc, refl}
use Rattle.it_check.specs.FindingLine.{line_form, start_form}
use Rattle.it_check.proofs.Appended.{appended}
use Rattle.it_strict.specs.FoundText.{untied_line, untied_sentence}
use Rattle.it_strict.proofs.untied_lines.push_path.Goals as goal

pub returns : goal.returns
unfolding untied_line line_form
returns c =
    let start = start_form (codes "policy") (codes "untied-file") (codes "/deliver") in
    let words = untied_sentence c.args.path.now in
    let before = c.in_ok-push_untied_sentence.ensures
    ∙ ap (λ text. text ++ words) (rw c.as_bytes.ensures.value at c.in_ok-push_start.ensures)
    ∙ append_assoc c.args.text.now.items start words in
    appended c.push_text.result c.args.text.now.items c.push_untied_sentence.new.text.items
    c.push_text.new.text.items (start ++ words) (codes "\n") (untied_line c.args.path.now) before
    refl c.push_text.ensures
