use Rattle.std.proofs.Common.{◌∙◌, arith, refl}
use Rattle.it_bundle.specs.declared.listed_entry.ListedEntry.{ListedEntry}
use Rattle.it_certificate.specs.Certificate.{facts_of}
use Rattle.it_vouches.specs.declared.attestation.Attestation.TheVariants.{Attested}
use Rattle.it_vouches.specs.inside.Shows.{ListedShows}
use Rattle.it_vouches.proofs.Entries.{comes_all, comes_first, comes_next}
use Rattle.it_vouches.proofs.Loops.{any_at}
use Rattle.it_vouches.proofs.attested.attestation_by.Goals as goal

pub loop-listed-init : goal.loop-listed-init
loop-listed-init c =
    let question = c.args.question.now in
    record {
      far = comes_first (ListedShows c.args.trust.now question.needs_proof question.logged (facts_of question.leaf.now));
      most = refl;
      grows = omega arith;
    }

pub returns-in-Attested-clause-answer : goal.returns-in-Attested-clause-answer
returns-in-Attested-clause-answer c =
    let question = c.args.question.now in
    any_at (λ (x : ListedEntry).
    ListedShows c.args.trust.now question.needs_proof question.logged (facts_of question.leaf.now) x (Attested c.in-Attested.time))
    c.args.entries.now c.loop-listed.listed-index c.listed-item.result c.loop-listed-test.true c.listed-item.is
    (rw c.in-Attested.is at c.in_ok-found.ensures.answer)

pub loop-listed-preserved : goal.loop-listed-preserved
loop-listed-preserved c =
    let question = c.args.question.now in
    let found = c.in_ok-found.ensures in
    record {
      far = comes_next (ListedShows c.args.trust.now question.needs_proof question.logged (facts_of question.leaf.now)) c.args.entries.now
          c.loop-listed.listed-index c.listed-item.result c.loop-listed.furthest c.in_ok-found.found c.further-furthest.result
          c.loop-listed-test.true c.listed-item.is c.loop-listed.invariant.far found.answer c.further-furthest.ensures;
      most = found.most ∙ c.loop-listed.invariant.most;
      grows = omega (arith, found.grows, c.loop-listed.invariant.grows);
    }

pub returns-clause-answer : goal.returns-clause-answer
returns-clause-answer c =
    let question = c.args.question.now in
    comes_all (ListedShows c.args.trust.now question.needs_proof question.logged (facts_of question.leaf.now)) c.args.entries.now
    c.loop-listed.listed-index c.loop-listed.furthest c.loop-listed-test.false c.loop-listed.invariant.far
