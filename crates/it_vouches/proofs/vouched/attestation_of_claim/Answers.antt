use Rattle.std.proofs.lemmas.Result.{IfOk-weaker}
use Rattle.it_certificate.specs.Certificate.{facts_of}
use Rattle.it_vouches.specs.inside.Brought.{brought_of}
use Rattle.it_vouches.proofs.Coming.{claim_shows}
use Rattle.it_vouches.proofs.vouched.attestation_of_claim.Goals as goal

pub returns-clause-answer : goal.returns-clause-answer
returns-clause-answer c =
    IfOk-weaker c.attestation_by.result _ _ (λ found shows.
    claim_shows c.args.trust.now c.args.claimed.now.bundle.now (brought_of c.args.claimed.now.claim) (facts_of c.args.leaf.now) c.logged_of.result
    c.logged_of.ensures found (rw c.needs_proof.ensures at shows)) c.attestation_by.ensures.answer
