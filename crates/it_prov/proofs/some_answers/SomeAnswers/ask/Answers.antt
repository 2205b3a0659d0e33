use Rattle.std.proofs.Common.{length, refl}
use Rattle.std.proofs.lemmas.Option.{slice_get_read}
use Rattle.it_prov.proofs.Sharing.{one_more_held}
use Rattle.it_prov.proofs.some_answers.SomeAnswers.ask.Goals as goal

pub returns-clause-hold : goal.returns-clause-hold
returns-clause-hold g c =
    let panel = g.C.Checks.panel c.args.checks.now in
    let builders = c.args.builders.now in
    let b = c.in-Some.builder.now in
    let stands = slice_get_read builders (length builders) c.args.place b refl
    c.in-Some.ensures.lookup.3.0 c.in-Some.ensures.lookup.1 in
    one_more_held panel c.args.envelope.now builders c.args.place b
    c.in_ok-answer.answer c.args.self.now c.put.new.self stands c.in_ok-answer.ensures
    c.in_ok-put.ensures.at c.in_ok-put.ensures.signed c.requires
