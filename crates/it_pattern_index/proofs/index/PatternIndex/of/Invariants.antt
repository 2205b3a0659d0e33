use Rattle.it_pattern_index.specs.inside.Listed.{texts_of}
use Rattle.it_pattern_index.proofs.Listing.{AreListedBelow}
use Rattle.it_pattern_index.proofs.index.PatternIndex.of.Given as goal

-- the patterns so far are listed
abbrev pub invariant-loop-place : goal.invariant-loop-place
invariant-loop-place l = AreListedBelow l.place (texts_of l.pattern-items) l.fronts
