-- For which files a policy has expectations (words of this project).
use Rattle.std.specs.Prelude.{List, length, map, nat_lt, take}
use Rattle.it_docs.specs.declared.policy.Expectation.{Expectation}
use Rattle.it_prov_notes.specs.declared.patterns.PatternsNote.{PatternsNote}

-- the patterns of the first ten expectations, and whether there are others
abbrev pub patterns_note : List Expectation → PatternsNote
patterns_note expectations = record {
  patterns = map (λ expectation. expectation.files) (take 10 expectations);
  others = nat_lt 10 (length expectations);
}
