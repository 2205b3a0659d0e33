-- Tests of where a path is relative to those that begin with a front.
use Rattle.std.specs.Prelude.{ℕ, Bool, ◌||◌, List, nat_eq}
use Rattle.std.specs.List.{starts_with}
use Rattle.std.specs.Ordering.{is_lt, nat_cmp}
use Rattle.std.specs.Cmp.Lexicographic.{slice_cmp}

-- whether a path comes before a front
abbrev pub is_before : List ℕ → List ℕ → Bool
is_before path front = is_lt (slice_cmp nat_cmp path front)

-- whether a path comes before a front or begins with it
abbrev pub is_reached : List ℕ → List ℕ → Bool
is_reached path front = is_before path front || starts_with nat_eq path front
