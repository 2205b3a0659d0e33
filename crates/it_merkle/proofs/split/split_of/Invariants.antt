use Rattle.std.proofs.Common.{◌≡◌, ℕ, ◌-◌, ◌^◌, ◌<◌}
use Rattle.it_merkle.proofs.split.split_of.Given as goal

-- a power of two below the size
abbrev pub invariant-loop-split : goal.invariant-loop-split
invariant-loop-split l = record {
  exponent : ℕ;
  power : l.split ≡ 2 ^ exponent;
  below : l.split < l.size;
}

abbrev pub decreases-loop-split : goal.decreases-loop-split
decreases-loop-split l = l.size - l.split
