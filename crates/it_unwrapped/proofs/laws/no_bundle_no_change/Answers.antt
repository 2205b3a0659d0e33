use Rattle.it_unwrapped.proofs.Reading.{no_change}
use Rattle.it_unwrapped.proofs.laws.no_bundle_no_change.Goals as goal

pub returns : goal.returns
returns c = no_change
