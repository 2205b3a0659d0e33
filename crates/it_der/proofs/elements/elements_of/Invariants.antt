use Rattle.std.proofs.Common.{◌≡◌, ◌++◌, length, map}
use Rattle.it_der.specs.Element.{bytes_of, tagged_of}
use Rattle.it_der.proofs.Reading.{AreShort}
use Rattle.it_der.proofs.elements.elements_of.Given as goal

-- the elements so far, and what comes after them
abbrev pub invariant-loop-rest : goal.invariant-loop-rest
invariant-loop-rest l = record {
  short : AreShort (map tagged_of l.elements.items);
  written : l.bytes ≡ bytes_of (map tagged_of l.elements.items) ++ l.rest;
}

abbrev pub decreases-loop-rest : goal.decreases-loop-rest
decreases-loop-rest l = length l.rest
