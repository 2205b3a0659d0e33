use Rattle.it_rules.proofs.LentDigests.{are_digests_of}
use Rattle.it_rules.proofs.listed_artifacts.ListedArtifacts.of.Goals as goal

pub returns-clause-digests : goal.returns-clause-digests
returns-clause-digests c =
    are_digests_of c.args.artifacts.now c.in_ok-paths.paths.items c.in_ok-digests.digests.items
    c.in_ok-paths.ensures.whole c.in_ok-digests.ensures
