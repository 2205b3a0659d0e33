use Rattle.std.proofs.Common.{◌∙◌, Contains, Global, Vec, subst, sym, ℕ}
use Rattle.std.proofs.lemmas.Option.{same_Some}
use Rattle.it_places.proofs.places.Places.under.Goals as goal

pub returns-in-Some : goal.returns-in-Some
returns-in-Some c = λ place. (
  λ has. record {
    found = c.in-Some.places.now;
    stands = sym c.in-Some.ensures.value;
    has = rw c.as_slice.ensures.value at has;
  },
  λ under. let known = same_Some _ _ (c.in-Some.ensures.value ∙ under.stands) in
      rw c.as_slice.ensures.value
      (subst (λ (v : Vec ℕ Global). Contains v.items place) (sym known) under.has),
)
