use Rattle.std.proofs.Common.{◌∙◌, arith, refl, sym, true≢false}
use Rattle.std.proofs.lemmas.List.{nil_from_length}
use Rattle.std.proofs.lemmas.Bool.Decides.{nat_tests}
use Rattle.it_notes.proofs.provenance.provenance_told.Goals as goal

pub returns : goal.returns
returns g c = λ best. record {
  policy = c.args.known.now.policy;
  expectation = c.in-Some-speaking.expectation.now;
  path = c.args.path.now;
  best = best;
  digests = c.in-Some-get.digests;
  fault_is = refl;
  is_policy = c.requires.known.policy;
  fits = rw (← c.as_slice.ensures) c.in-Some-speaking.ensures;
  is_delivered = record {
    delivered = c.args.known.now.delivered;
    reads = c.requires.known.delivered;
    stands = sym c.get.ensures ∙ c.in-Some-get.is;
  };
  are_true = rw (← c.as_slice-provenance.ensures) c.in_ok-notes.ensures;
}

pub returns-then-is_empty : goal.returns-then-is_empty
returns-then-is_empty g c = λ best. record {
  path = c.args.path.now;
  best = best;
  fault_is = refl;
  is_true = rw (← c.as_slice-provenance.ensures)
      (nil_from_length c.as_slice-provenance.result.now
      (grind (arith, nat_tests, c.if-is_empty.ensures)));
}

pub returns-then-branch : goal.returns-then-branch
returns-then-branch g c = λ best. record {
  path = c.args.path.now;
  best = best;
  fault_is = refl;
  is_true = rw c.as_slice-provenance.ensures at
      (rw c.if-branch.true at c.in_ok-is_short_envelope.ensures);
}

pub unreachable-requires : goal.unreachable-requires
unreachable-requires g c = true≢false (sym (rw c.in_default.is at c.requires.lines))
