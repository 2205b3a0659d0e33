use Rattle.it_ed_point.proofs.Doubles.{table_held}
use Rattle.it_ed_point.proofs.base_doubles.coordinates_of.Goals as goal

pub returns : goal.returns
returns c = table_held c.args.place _ c.requires
