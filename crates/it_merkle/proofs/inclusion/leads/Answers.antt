use Rattle.std.proofs.lemmas.Bool.Decides.{Decides-eqb}
use Rattle.std.proofs.lemmas.Slice.Eq.{slice_eq-Decides}
use Rattle.it_merkle.proofs.Ways.{leads_or_not}
use Rattle.it_merkle.proofs.inclusion.leads.Goals as goal

pub returns-in-Some : goal.returns-in-Some
returns-in-Some c =
    leads_or_not c.args.hash.now c.args.index c.args.size c.args.path.now c.in-Some.found c.args.root.now c.eq.result
    (slice_eq-Decides Decides-eqb c.in-Some.found c.args.root.now c.eq.result c.eq.ensures) c.in-Some.ensures
