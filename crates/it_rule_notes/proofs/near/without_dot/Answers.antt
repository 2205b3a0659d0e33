use Rattle.std.proofs.Common.{codes, inl, inr, refl, rules}
use Rattle.it_rule_notes.proofs.near.without_dot.Goals as goal

pub returns-in-Some : goal.returns-in-Some
returns-in-Some c = record {
  front = codes "./";
  path_is = search rules;
  is_front = inr (codes ".", inl refl);
}
