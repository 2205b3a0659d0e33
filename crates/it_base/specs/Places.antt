-- What comes first among places (a term of this project; no standard has it).
use Rattle.std.specs.Prelude.{◌⊎◌, List, [], ◌∷◌}

-- nothing is at any of the places
abbrev pub NoneAt : {P R : Type 0} → (P → R → Type 0) → List P → Type 0
NoneAt At [] = Unit {0}
NoneAt {R = R} At (p ∷ ps) = ((r : R) → ¬ At p r) × NoneAt At ps

-- what is at the first place that has something
abbrev pub IsFirst : {P R : Type 0} → (P → R → Type 0) → List P → R → Type 0
IsFirst At [] r = ⊥
IsFirst {R = R} At (p ∷ ps) r = At p r ⊎ (((other : R) → ¬ At p other) × IsFirst At ps r)
