-- The greatest build level with which an expectation is met in all else (this profile's choice;
-- the levels are those of SLSA v1.0).
use Rattle.std.specs.Prelude.{◌≡◌, ◌≤◌, ℕ, Option, Some, None}
use Rattle.it_digest.specs.declared.compare.DigestSet.{DigestSet}
use Rattle.it_dsse.specs.Panel.{Panel}
use Rattle.it_dsse.specs.declared.envelope.Envelope.{Envelope}
use Rattle.it_docs.specs.declared.policy.Builder.{Builder}
use Rattle.it_docs.specs.declared.policy.Expectation.{Expectation}
use Rattle.it_prov.specs.Meets.{MeetsBesidesLevel}

-- the greatest number of which P holds, or none where P holds of no number
abbrev pub IsGreatest : (ℕ → Type 0) → Option ℕ → Type 0
IsGreatest P None = (n : ℕ) → ¬ P n
IsGreatest P (Some greatest) = P greatest × ((n : ℕ) → P n → n ≤ greatest)

-- an envelope meets an expectation in all but the level with a builder of this level
pub record MeetsAtLevel (panel : Panel) (expectation : Expectation) (digests : DigestSet)
    (envelope : Envelope) (level : ℕ) : Type 0 where
  pub builder : Builder
  pub besides_level : MeetsBesidesLevel panel expectation digests envelope builder
  pub level_is : level ≡ builder.level

-- the greatest level of a builder with which an envelope that satisfies P meets an expectation in
-- all but the level
abbrev pub IsBest : Panel → Expectation → DigestSet → (Envelope → Type 0) → Option ℕ → Type 0
IsBest panel expectation digests P = IsGreatest (λ level.
    (envelope : Envelope) × P envelope × MeetsAtLevel panel expectation digests envelope level)
