-- How what was answered for sublayouts is kept and recalled. Nothing here is trusted.
use Rattle.std.specs.Prelude.{◌≡◌, ℕ, suc, List, Option, None, Some, if◌then◌else◌}
use Rattle.std.specs.Prelude.{Bool, true, false}
use Rattle.std.specs.Str.{bytes_eq}
use Rattle.it_dsse.specs.Meter.{raised}
use Rattle.it_dsse.specs.declared.meter.Meter.{Meter}
use Rattle.it_rules.specs.Item.{Recorded}
use Rattle.it_chain.specs.Answered.{AreWithin, answer_at, within_at}
use Rattle.it_chain.specs.inside.Scope.{Scope}
use Rattle.it_chain.specs.declared.answered.Answer.{Answer}
use Rattle.it_chain.specs.declared.answered.AnsweredSublayouts.{AnsweredSublayouts}

-- one answer more
abbrev pub IsKept : AnsweredSublayouts → AnsweredSublayouts → List ℕ → Answer → Type 0
IsKept old new payload answer =
    ((p : List ℕ) → answer_at new p ≡ (if bytes_eq payload p then Some answer
    else answer_at old p))
    × ((folder : List ℕ) → within_at new folder ≡ within_at old folder)

-- one answer more, or all as it was
abbrev pub IsKeptIf : Bool → AnsweredSublayouts → AnsweredSublayouts → List ℕ → Answer → Type 0
IsKeptIf true old new payload answer = IsKept old new payload answer
IsKeptIf false old new payload answer = new ≡ old

-- the artifacts of an answer, where there is one; the meter rises as it did for them
abbrev pub IsRecalled : Option Answer → Meter → Meter → Option Recorded → Type 0
IsRecalled None old new given = (given ≡ None) × (new ≡ old)
IsRecalled (Some answer) old new given =
    (given ≡ Some answer.recorded) × (new ≡ raised old answer.asked.asked)

-- all answers over the bundle of a level, and over the folders in it, are right
abbrev pub AreAnswers : Scope → AnsweredSublayouts → Type 0
AreAnswers scope answered = AreWithin scope.setting (suc scope.depth) scope.bundle answered
