use Rattle.std.proofs.Common.{Contains, take}
use Rattle.it_pattern_index.specs.inside.Listed.{texts_of}
use Rattle.it_pattern_index.specs.inside.Narrowed.{IsNarrowed}
use Rattle.it_pattern_index.proofs.earlier.earlier_among.Given as goal

-- the places so far were asked
abbrev pub invariant-loop-place : goal.invariant-loop-place
invariant-loop-place l = IsNarrowed (texts_of l.patterns) l.path
    (Contains (take l.place-index l.places)) l.fn.found l.first
