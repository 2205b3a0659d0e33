-- Why the values of a command are not read.
use Rattle.std.specs.Prelude.{◌≡◌}
use Rattle.it_words.specs.declared.words.values.ValuesFault.{ValuesFault}
use Rattle.it_words.specs.declared.words.values.ValuesFault.TheVariants.{Unfit}

-- where the fault is that values do not fit, there is nothing for which P holds
abbrev pub FitsNone : {X : Type 0} → (X → Type 0) → ValuesFault → Type 0
FitsNone {X} P fault = fault ≡ Unfit → (x : X) → ¬ P x
