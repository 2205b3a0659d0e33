use Rattle.std.proofs.Common.{◌≡◌, slice_get, Some, None, refl}
use Rattle.std.proofs.lemmas.Option.{slice_get_past, slice_get_read}
use Rattle.it_chain.proofs.Candidates.{lent_at}
use Rattle.it_chain.proofs.candidate.candidate_at.Goals as goal

pub returns-in-Some : goal.returns-in-Some
returns-in-Some c =
    let files = c.args.files.now in
    let lookup = c.in-Some.ensures.lookup in
    let is : slice_get files c.args.place ≡ Some c.in-Some.file.now =
    slice_get_read files _ c.args.place c.in-Some.file.now refl lookup.3.0 lookup.1 in
    lent_at files c.args.place c.in-Some.file.now is c.candidate_in.result c.candidate_in.ensures

pub returns-in-None : goal.returns-in-None
returns-in-None c = λ x h.
    let none : slice_get c.args.files.now c.args.place ≡ None =
    slice_get_past c.args.files.now c.args.place c.in-None.ensures.lookup.3 in
    let some = h.1 in cc
