use Rattle.it_making.proofs.DigestsWritten.{digest_set_reads_back}
use Rattle.it_making.proofs.digest_sets.digest_set_value.Goals as goal

pub returns-clause-reads_back : goal.returns-clause-reads_back
returns-clause-reads_back c =
    digest_set_reads_back c.args.digests.now c.in_ok-put_digest.ensures.reads_back
    c.in_ok-put_digest-2.ensures.reads_back c.in_ok-put_digest-3.ensures.reads_back
