use Rattle.std.proofs.Common.{sym}
use Rattle.it_words.proofs.words.values.Values.absent.Goals as goal

pub returns-in-Some-clause-unfit : goal.returns-in-Some-clause-unfit
returns-in-Some-clause-unfit c = λ none.
    let given = c.in-Some.ensures in
    cc

pub returns-in-None-clause-found : goal.returns-in-None-clause-found
returns-in-None-clause-found c = sym c.in-None.ensures
