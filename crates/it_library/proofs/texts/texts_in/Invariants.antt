use Rattle.std.proofs.Common.{◌≡◌, ◌++◌, ◌∷◌, [], All, Contains, flat_map, length, map}
use Rattle.it_library.proofs.texts.texts_in.Given as goal

-- the texts so far, and what follows them
abbrev pub invariant-loop-rest : goal.invariant-loop-rest
invariant-loop-rest l = record {
  bytes_are : l.bytes
      ≡ flat_map (λ text. text ++ 0 ∷ []) (map (λ text. text.now) l.texts.items) ++ l.rest;
  no_zero : All (λ text. ¬ Contains text 0) (map (λ text. text.now) l.texts.items);
}

abbrev pub decreases-loop-rest : goal.decreases-loop-rest
decreases-loop-rest l = length l.rest
