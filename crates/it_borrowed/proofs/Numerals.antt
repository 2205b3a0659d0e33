-- The number that a text writes, from its numeral: after a minus, or from the front.
use Rattle.std.proofs.Common.{◌≡◌, ℕ, List, drop, get_or, true, false, ◌==◌}
use Rattle.fast_float.specs.Text.{scan}
use Rattle.serde_json.specs.Read.{number_of, number_from}

pub after_minus : (s : List ℕ) → (get_or s 0 0 == 45) ≡ true
    → number_from true (scan (drop 1 s)) ≡ number_of s
unfolding number_of
after_minus s signed = rw signed

pub from_front : (s : List ℕ) → (get_or s 0 0 == 45) ≡ false
    → number_from false (scan s) ≡ number_of s
unfolding number_of
from_front s unsigned = rw unsigned
