-- The answers of a search among envelopes. Nothing that is trusted stands here.
use Rattle.std.specs.Prelude.{◌*◌, ◌≤◌, ℕ, List, Contains, IfErr, IfOk, Result}
use Rattle.it_digest.specs.declared.compare.DigestSet.{DigestSet}
use Rattle.it_dsse.specs.Meter.{RaisedBy}
use Rattle.it_dsse.specs.Panel.{Panel}
use Rattle.it_dsse.specs.declared.envelope.Envelope.{Envelope}
use Rattle.it_dsse.specs.declared.meter.Meter.{Meter}
use Rattle.it_docs.specs.declared.policy.Expectation.{Expectation}
use Rattle.it_prov.specs.Asked.{AtLeast, IsAskedAt}
use Rattle.it_prov.specs.Best.{IsBest}
use Rattle.it_prov.specs.Cost.{key_count, signature_count}
use Rattle.it_prov.specs.Finding.{IsFirstToMeet, NoneMeets}
use Rattle.it_prov.specs.declared.fault.Unmet.{Unmet}

-- the index of the first envelope that meets an expectation, or the best level where none does, and
-- how far the meter was raised for it
pub record IsSought (panel : Panel) (expectation : Expectation) (digests : DigestSet)
    (envelopes : List Envelope) (old new : Meter) (result : Result ℕ Unmet) : Type 0 where
  pub found : IfOk result (IsFirstToMeet panel expectation digests envelopes)
  pub missing : IfErr result (λ unmet. NoneMeets panel expectation digests envelopes
      × IsBest panel expectation digests (Contains envelopes) unmet.best)
  pub at_most : RaisedBy
      (λ n. n ≤ key_count expectation.builders * signature_count envelopes) old new
  pub at_least : IfOk result (λ index.
      RaisedBy (AtLeast (IsAskedAt panel expectation digests envelopes index)) old new)
