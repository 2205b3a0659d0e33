use Rattle.std.proofs.Common.{◌≡◌, Some}
use Rattle.it_base.specs.JsonView.{json_of}
use Rattle.it_prov_notes.specs.Values.{AreSame, value_at}
use Rattle.it_prov_notes.specs.inside.Inner.{seen}
use Rattle.it_prov_notes.proofs.difference.first_difference.Given as goal

-- the values are those at the place, and are not the same
abbrev pub invariant-loop : goal.invariant-loop
invariant-loop l = record {
  given : seen l.values.given ≡ value_at l.place.items (Some (json_of l.given));
  wanted : seen l.values.wanted ≡ value_at l.place.items (Some (json_of l.wanted));
  differ : ¬ AreSame (seen l.values.given) (seen l.values.wanted);
}
