use Rattle.it_verify.proofs.Verified.{is_verdict}
use Rattle.it_notes.proofs.known.made_told.Goals as goal

pub returns : goal.returns
returns c = λ panel made are_found.
    let grounds = c.args.grounds in
    record {
      verdict = is_verdict panel c.args.inputs.now grounds.documents grounds.evidence
          c.in_ok-verdict.verdict made c.in_ok-verdict.ensures.verdict;
      basis = c.known_in.ensures.known panel (record {
        read = made.read;
        owners = made.owners;
        steps = tt;
        lines = tt;
      });
      lines = rw c.in_ok-verdict.ensures.verdict tt;
      noted = c.requires;
      found = are_found;
    }
