use Rattle.it_nonce_uses.proofs.FilesUsed.{claimed_found}
use Rattle.it_nonce_uses.proofs.file_uses.claimed_envelope.Goals as goal

pub returns : goal.returns
returns c =
    claimed_found c.args.step.now c.args.file.now
    (rw c.name.ensures at (c.is_claimed.ensures.0 c.if-not-is_claimed.false)) c.candidate_in.result
    c.candidate_in.ensures
