-- How far a meter is raised.
use Rattle.std.specs.Prelude.{ℕ, ◌≤◌}
use Rattle.it_dsse.specs.Meter.{RaisedBy}
use Rattle.it_dsse.specs.declared.meter.Meter.{Meter}

-- by at least a number, and by at most each number for which Most holds
abbrev pub RaisedWithin : ℕ → (ℕ → Type 0) → Meter → Meter → Type 0
RaisedWithin least Most = RaisedBy (λ k. (least ≤ k) × ((n : ℕ) → Most n → k ≤ n))

-- by at least each number for which Least holds
abbrev pub RaisedAtLeast : (ℕ → Type 0) → Meter → Meter → Type 0
RaisedAtLeast Least old new = (n : ℕ) → Least n → RaisedBy (λ m. n ≤ m) old new
