use Rattle.it_evidence.proofs.Expires.{expires_text}
use Rattle.it_evidence.proofs.evidence.expires_of.Goals as goal

pub unreachable-requires : goal.unreachable-requires
unreachable-requires c =
    let documents = c.args.documents.now in
    let found = expires_text documents.envelope.payload documents.layout c.requires in
    (rw (c.as_slice.ensures, c.in-None.is) at c.in_ok-expires.ensures) found.0 found.1
