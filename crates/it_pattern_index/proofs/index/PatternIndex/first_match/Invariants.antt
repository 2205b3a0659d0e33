use Rattle.std.proofs.Common.{None, take}
use Rattle.it_pattern_index.specs.inside.Listed.{texts_of}
use Rattle.it_pattern_index.specs.inside.Narrowed.{IsNarrowed}
use Rattle.it_pattern_index.proofs.Narrowing.{IsAskedBy}
use Rattle.it_pattern_index.proofs.index.PatternIndex.first_match.Given as goal

-- the plain patterns were asked, and those whose fronts have one of the lengths so far
abbrev pub invariant-loop-len : goal.invariant-loop-len
invariant-loop-len l = IsNarrowed (texts_of l.self-inside.patterns.items) l.path
    (IsAskedBy (texts_of l.self-inside.patterns.items) (take l.len-index l.len-items)) None l.first
