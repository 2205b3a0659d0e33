use Rattle.std.proofs.Common.{rules}
use Rattle.std.proofs.lemmas.Str.{chars_from_encodes}
use Rattle.it_glob.specs.Pattern.{items_of}
use Rattle.it_glob.proofs.reading.read_items.Goals as goal

pub returns : goal.returns
unfolding items_of
returns c = search (rules, chars_from_encodes)
