use Rattle.std.proofs.Common.{◌≡◌, Bool}
use Rattle.it_digest.specs.declared.compare.DigestSet.{DigestSet}
use Rattle.it_prov.specs.Index.{names}
use Rattle.it_prov.specs.inside.Indexed.{TellsAgreement, places_where}
use Rattle.it_prov.proofs.Candidates.{Looked}
use Rattle.it_prov.proofs.meets.first_to_meet.Given as goal

-- the greatest level with which an envelope at a place so far meets the expectation in all else is
-- too low, and the rest leave each of their signatures to be tried once for each key
abbrev pub invariant-loop-candidate : goal.invariant-loop-candidate
invariant-loop-candidate g l =
    (digests : DigestSet) (test : DigestSet → Bool) → TellsAgreement digests test
    → l.candidates ≡ places_where (names test) 0 l.attestations.held.items
    → Looked (g.C.Checks.panel l.attestations.checks.now) l.expectation digests
    l.attestations.envelopes.now l.candidates l.candidate-index l.best l.fn.meter l.meter
