use Rattle.it_strict.proofs.SameLists.{lists_name_the_same}
use Rattle.it_strict.proofs.laws.lists_name_the_same.Goals as goal

pub returns : goal.returns
returns c = lists_name_the_same
