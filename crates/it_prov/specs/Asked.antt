-- The fewest validity checks that it takes to find provenance (specific to this project; no
-- standard covers it).
use Rattle.std.specs.Prelude.{◌≡◌, ◌≤◌, ℕ, List, Some}
use Rattle.std.specs.List.{slice_get}
use Rattle.it_digest.specs.declared.compare.DigestSet.{DigestSet}
use Rattle.it_dsse.specs.Panel.{Panel}
use Rattle.it_dsse.specs.Signed.{tries}
use Rattle.it_dsse.specs.declared.envelope.Envelope.{Envelope}
use Rattle.it_docs.specs.declared.policy.Expectation.{Expectation}
use Rattle.it_prov.specs.Fits.{Fits}
use Rattle.it_prov.specs.Meets.{Meets}

-- a number is at least some number of which P holds
abbrev pub AtLeast : (ℕ → Type 0) → ℕ → Type 0
AtLeast P n = (least : ℕ) × P least × (least ≤ n)

-- an envelope meets an expectation, and n signatures are tried with the key of the builder that
-- signed: those that are admitted for its id, up to the first valid one
pub record IsAskedFor (panel : Panel) (expectation : Expectation) (digests : DigestSet)
    (envelope : Envelope) (n : ℕ) : Type 0 where
  pub meets : Meets panel expectation digests envelope
  pub tried : n
      ≡ tries panel envelope meets.besides_level.signed.id meets.besides_level.signed.object

-- the same for the envelope at an index
pub record IsAskedAt (panel : Panel) (expectation : Expectation) (digests : DigestSet)
    (envelopes : List Envelope) (index : ℕ) (n : ℕ) : Type 0 where
  pub envelope : Envelope
  pub stands : slice_get envelopes index ≡ Some envelope
  pub asked : IsAskedFor panel expectation digests envelope n

-- the same for the expectation that fits a path
pub record IsAsked (panel : Panel) (expectations : List Expectation) (path : List ℕ)
    (digests : DigestSet) (envelopes : List Envelope) (index : ℕ) (n : ℕ) : Type 0 where
  pub expectation : Expectation
  pub fits : Fits expectations path expectation
  pub asked : IsAskedAt panel expectation digests envelopes index n
