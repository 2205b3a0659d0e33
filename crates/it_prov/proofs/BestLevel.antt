-- There is one best level with which envelopes meet an expectation.
use Rattle.std.proofs.Common.{◌≡◌, ℕ, List, Option, Contains}
use Rattle.it_digest.specs.declared.compare.DigestSet.{DigestSet}
use Rattle.it_dsse.specs.Panel.{Panel}
use Rattle.it_dsse.specs.declared.envelope.Envelope.{Envelope}
use Rattle.it_docs.specs.declared.policy.Expectation.{Expectation}
use Rattle.it_prov.specs.Best.{IsBest, MeetsAtLevel}
use Rattle.it_prov.proofs.Greatest.{greatest_one, some_greatest}
use Rattle.it_prov.proofs.Meeting.{greatest_level}

module _ (panel : Panel) (expectation : Expectation) (digests : DigestSet) where
  pub best_is_one : (P : Envelope → Type 0) (a b : Option ℕ) → IsBest panel expectation digests P a
      → IsBest panel expectation digests P b → a ≡ b
  best_is_one P = greatest_one (λ level. (envelope : Envelope) × P envelope
      × MeetsAtLevel panel expectation digests envelope level)

  pub some_best : (envelopes : List Envelope) → (best : Option ℕ) × IsBest panel expectation digests
      (Contains envelopes) best
  some_best = some_greatest (MeetsAtLevel panel expectation digests)
      (greatest_level panel expectation digests)
