use Rattle.std.proofs.Common.{◌∙◌, Global, List, Vec, ap, sym, ℕ}
use Rattle.std.specs.List.{flat_map}
use Rattle.std.proofs.lemmas.List.{take_all}
use Rattle.std.proofs.lemmas.List.Folds.{flat_map-map}
use Rattle.it_notes.proofs.lines.Lines.into_text.Goals as goal

pub returns : goal.returns
returns c = λ all h.
    let lines = c.as_slice-line-items.result.now in
    let bytes = λ (line : Vec ℕ Global). line.items in
    c.loop-line.invariant
    ∙ ap (flat_map bytes) (take_all c.loop-line.line-index lines c.loop-line-test.false
    ∙ c.as_slice-line-items.ensures.value)
    ∙ sym (flat_map-map (λ (line : List ℕ). line) bytes c.in_ok-lines.lines.items)
    ∙ ap (flat_map (λ (line : List ℕ). line)) (c.in_ok-lines.ensures all h)
