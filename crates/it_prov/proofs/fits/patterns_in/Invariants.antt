use Rattle.std.proofs.Common.{◌≡◌, Bor, List, map, take, ℕ}
use Rattle.it_prov.specs.Fits.{patterns_of}
use Rattle.it_prov.proofs.fits.patterns_in.Given as goal

-- the patterns of the expectations so far
abbrev pub invariant-loop-expectation : goal.invariant-loop-expectation
invariant-loop-expectation l = map (λ (pattern : Bor (List ℕ)). pattern.now) l.patterns.items
    ≡ patterns_of (take l.expectation-index l.expectations)
