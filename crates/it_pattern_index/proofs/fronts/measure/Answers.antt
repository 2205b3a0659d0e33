use Rattle.it_pattern_index.proofs.Listing.{measured_more}
use Rattle.it_pattern_index.proofs.fronts.measure.Goals as goal

pub returns-clause-kept : goal.returns-clause-kept
returns-clause-kept c =
    measured_more c.args.lengths.now.items c.put_length.new.lengths.items
    c.in_ok-put_length.ensures.kept
