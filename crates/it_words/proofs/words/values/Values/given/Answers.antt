use Rattle.std.proofs.Common.{◌∙◌, ap}
use Rattle.clap.specs.Words.{found_of}
use Rattle.clap.specs.Walk.{all_of}
use Rattle.clap.proofs.WalkLemmas.{raw_values-rows}
use Rattle.it_words.proofs.words.values.Values.given.Goals as goal

pub returns : goal.returns
returns c = c.get_strs.ensures
    ∙ raw_values-rows (found_of c.self.inside.found.now) c.args.name.now
    ∙ ap (all_of c.args.name.now) c.self.view_is
