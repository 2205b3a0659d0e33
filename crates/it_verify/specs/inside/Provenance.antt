-- The answers of the functions on provenance.
use Rattle.std.specs.Prelude.{◌≡◌, ◌⊎◌, ℕ, List, Option}
use Rattle.it_digest.specs.declared.compare.DigestSet.{DigestSet}
use Rattle.it_dsse.specs.Panel.{Panel}
use Rattle.it_dsse.specs.declared.envelope.Envelope.{Envelope}
use Rattle.it_docs.specs.declared.policy.Expectation.{Expectation}
use Rattle.it_prov.specs.Asked.{IsAsked}
use Rattle.it_prov.specs.Finding.{IsFound, IsMissing, NoneFits}
use Rattle.it_report.specs.declared.refusal.Fault.TheVariants.{NoExpectation, NoProvenance}
use Rattle.it_report.specs.declared.refusal.Refusal.{Refusal}
use Rattle.it_verify.specs.Refusals.{whole}

module _ (panel : Panel) (expectations : List Expectation) (envelopes : List Envelope) where
  -- one of the envelopes meets the expectation that speaks of a file
  abbrev pub FileProven : List ℕ × DigestSet → Type 0
  FileProven file = (index : ℕ) × IsFound panel expectations file.0 file.1 envelopes index

  -- this many signatures are tried with the key by which one of the envelopes meets the expectation
  -- that speaks of a file
  abbrev pub FileAsks : List ℕ × DigestSet → ℕ → Type 0
  FileAsks file n = (index : ℕ) × IsAsked panel expectations file.0 file.1 envelopes index n

  -- no expectation speaks of a file, or none of the envelopes meets the one that does, and this is
  -- the best level of a builder with which one meets it in all but the level
  abbrev pub FileLacks : List ℕ × DigestSet → Refusal → Type 0
  FileLacks file refusal =
      (NoneFits expectations file.0 × (refusal ≡ whole (NoExpectation file.0)))
      ⊎ ((best : Option ℕ) × IsMissing panel expectations file.0 file.1 envelopes best
      × (refusal ≡ whole (NoProvenance file.0 best)))
