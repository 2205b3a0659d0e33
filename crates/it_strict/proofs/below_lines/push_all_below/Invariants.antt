use Rattle.std.proofs.Common.{◌≡◌, ◌++◌, take}
use Rattle.it_strict.specs.BelowText.{all_below_text}
use Rattle.it_strict.proofs.below_lines.push_all_below.Given as goal

abbrev pub invariant-loop-below : goal.invariant-loop-below
invariant-loop-below l =
    l.text.items ≡ l.fn.text.items ++ all_below_text (take l.below-index l.all)
