use Rattle.std.proofs.Common.{suc, ◌*◌, ap, ◌∙◌, sym, arith}
use Rattle.std.proofs.Common.{ℕ}
use native.Mathlib.Nat.{pow-suc}
use Rattle.it_merkle.proofs.split.split_of.Goals as goal

pub loop-split-preserved : goal.loop-split-preserved
loop-split-preserved c =
    let before = c.loop-split.invariant in
    record {
      exponent = suc before.exponent;
      power = ap (λ (n : ℕ). n * 2) before.power ∙ sym (pow-suc 2 before.exponent);
      below = omega arith;
    }
