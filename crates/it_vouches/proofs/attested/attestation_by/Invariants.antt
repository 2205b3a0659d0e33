use Rattle.std.proofs.Common.{◌≡◌, ◌≤◌, take}
use Rattle.it_certificate.specs.Certificate.{facts_of}
use Rattle.it_vouches.specs.inside.Shows.{ComesFurthest, ListedShows}
use Rattle.it_vouches.proofs.attested.attestation_by.Given as goal

-- how far the leaf comes by the entries so far; the budget is the one that was given
abbrev pub invariant-loop-listed : goal.invariant-loop-listed
invariant-loop-listed l = record {
  far : ComesFurthest (ListedShows l.trust l.question.needs_proof l.question.logged (facts_of l.question.leaf.now))
      (take l.listed-index l.entries) l.furthest;
  most : l.budget.most ≡ l.fn.budget.most;
  grows : l.fn.budget.checked ≤ l.budget.checked;
}
