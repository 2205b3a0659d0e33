use Rattle.std.proofs.lemmas.Result.{IfOk-weaker}
use Rattle.it_certificate.specs.Certificate.{facts_of}
use Rattle.it_vouches.proofs.Attesting.{attested_is}
use Rattle.it_vouches.proofs.Usable.{all_read}
use Rattle.it_vouches.proofs.trust.Trust.issuer_shortfall.Goals as goal

pub shortfall_by_authorities-requires-clause-authorities_read : goal.shortfall_by_authorities-requires-clause-authorities_read
shortfall_by_authorities-requires-clause-authorities_read c =
    let all = c.self.inside in
    rw c.as_slice-2.ensures.value (all_read all.root.now.authorities all.authorities.items c.self.invariant)

pub returns-clause-answer : goal.returns-clause-answer
returns-clause-answer c =
    let all = c.self.inside in
    rw (← c.self.view_is) (IfOk-weaker c.shortfall_by_authorities.result _ _ (λ o test.
    attested_is all.root.now all.authorities.items (facts_of c.args.leaf.now) c.args.moment c.self.invariant o
    (rw (c.as_slice.ensures, c.as_slice-2.ensures.value) at test)) c.shortfall_by_authorities.ensures.answer)
