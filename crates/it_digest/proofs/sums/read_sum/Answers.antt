use Rattle.it_digest.proofs.SumsLemmas.{no_path, no_sum}
use Rattle.it_digest.proofs.sums.read_sum.Goals as goal

pub returns-in_err-digests : goal.returns-in_err-digests
returns-in_err-digests c = rw c.from_residual.ensures (no_sum _ _ c.in_err-digests.ensures)

pub returns-in_err-path : goal.returns-in_err-path
returns-in_err-path c = rw c.from_residual-in_err-path.ensures
    (no_path _ _ (c.in_ok-digests.digests, c.in_ok-digests.text.now) c.in_ok-digests.ensures
    c.in_err-path.ensures)

pub returns : goal.returns
returns c = record {
  text = c.in_ok-digests.text.now;
  cut = c.in_ok-digests.ensures;
  path_is = c.in_ok-path.ensures;
}
