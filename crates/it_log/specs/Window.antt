-- Windows of time (Sigstore's `TimeRange`).
use Rattle.std.specs.Prelude.{ℤ, ◌≤ℤ◌, MatchOption}
use Rattle.it_log.specs.declared.window.Window.{Window}

-- a moment lies in a window: not before its start, and not after its end where it has one
pub record LiesIn (window : Window) (moment : ℤ) : Type 0 where
  pub started : window.start ≤ℤ moment
  pub not_over : MatchOption window.end (Unit {0}) (λ end. moment ≤ℤ end)
