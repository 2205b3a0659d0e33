use Rattle.std.proofs.Common.{rules, w64}
use Rattle.std.proofs.lemmas.Int.{to_z-of_z}
use Rattle.it_strict.proofs.below.counted_below.Goals as goal

pub counted_sublayouts-requires-clause-holds : goal.counted_sublayouts-requires-clause-holds
counted_sublayouts-requires-clause-holds g c =
    rw (to_z-of_z w64 c.args.documents.now.moment (search rules)) c.requires.holds

pub returns : goal.returns
returns g c =
    rw (to_z-of_z w64 c.args.documents.now.moment (search rules)) at c.counted_sublayouts.ensures
