-- Where an envelope was found, a signature was tried.
use Rattle.std.proofs.Common.{ℕ, ◌≤◌, List}
use Rattle.it_digest.specs.declared.compare.DigestSet.{DigestSet}
use Rattle.it_dsse.specs.Panel.{Panel}
use Rattle.it_dsse.specs.Meter.{RaisedBy}
use Rattle.it_dsse.specs.declared.envelope.Envelope.{Envelope}
use Rattle.it_dsse.specs.declared.meter.Meter.{Meter}
use Rattle.it_dsse.proofs.Tries.{signed_tries}
use Rattle.it_docs.specs.declared.policy.Expectation.{Expectation}
use Rattle.it_prov.specs.Asked.{AtLeast, IsAsked, IsAskedFor}
use Rattle.it_prov.proofs.Asking.{raised_once}

pub asked_one : (panel : Panel) (expectation : Expectation) (digests : DigestSet)
    (envelope : Envelope) (n : ℕ) → IsAskedFor panel expectation digests envelope n → 1 ≤ n
asked_one panel expectation digests envelope n asked =
    let by = asked.meets.besides_level.signed in
    rw asked.tried (signed_tries panel envelope by.id by.object by.key by.signed)

pub found_once : (panel : Panel) (expectations : List Expectation) (path : List ℕ)
    (digests : DigestSet) (envelopes : List Envelope) (index : ℕ) (start new : Meter)
    → RaisedBy (AtLeast (IsAsked panel expectations path digests envelopes index)) start new
    → RaisedBy (λ n. 1 ≤ n) start new
found_once panel expectations path digests envelopes index =
    raised_once (IsAsked panel expectations path digests envelopes index)
    (λ n asked. asked_one panel asked.expectation digests asked.asked.envelope n asked.asked.asked)
