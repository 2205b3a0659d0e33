use Rattle.std.proofs.Common.{sym, subst}
use Rattle.it_places.specs.Places.{IsUnder}
use Rattle.it_pattern_index.proofs.Listing.{front_is}
use Rattle.it_pattern_index.proofs.fronts.Fronts.under.Goals as goal

pub returns : goal.returns
returns c = λ front begins long place under.
    let is = front_is c.args.path.now front c.args.len begins long in
    (c.under.ensures place).1 (subst (λ f. IsUnder c.args.self.now.places f place) (sym is) under)
