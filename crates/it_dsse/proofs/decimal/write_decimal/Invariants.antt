use Rattle.std.proofs.Common.{◌≡◌, ◌≤◌, ◌++◌, length, drop}
use Rattle.std.specs.Fmt.{decimal}
use Rattle.it_dsse.proofs.decimal.write_decimal.Given as goal

abbrev pub invariant-loop-left : goal.invariant-loop-left
invariant-loop-left l = record {
  within : l.at ≤ 20;
  long : length l.digits ≡ 20;
  room : length (decimal l.left) ≤ l.at;
  written : decimal l.left ++ drop l.at l.digits ≡ decimal l.number;
}

abbrev pub decreases-loop-left : goal.decreases-loop-left
decreases-loop-left l = l.left
