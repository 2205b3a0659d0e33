use Rattle.std.proofs.Common.{◌≡◌, ◌++◌, take}
use Rattle.std.specs.List.{flat_map}
use Rattle.it_prov_notes.specs.ProvenanceLines.{pattern_form}
use Rattle.it_prov_notes.proofs.patterns_words.push_each.Given as goal

-- the patterns so far, each after a space
abbrev pub invariant-loop-pattern : goal.invariant-loop-pattern
invariant-loop-pattern l = l.text.items ≡ l.fn.text.items
    ++ flat_map pattern_form (take l.pattern-index l.patterns)
