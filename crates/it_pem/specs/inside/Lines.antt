-- What an iterator over lines gives.
use Rattle.std.specs.Prelude.{ℕ, List}
use Rattle.std.specs.Iterator.{AlwaysYields}
use Rattle.std.specs.Str.Iter.{lines_steps}
use Rattle.std.specs.declared.str.Lines.{Lines}

-- these lines, and then no more
abbrev pub Gives : Lines → List (List ℕ) → Type 0
Gives lines all = AlwaysYields lines_steps (λ line. line.now) lines all
