use Rattle.std.proofs.Common.{arith, inl, inr, rules}
use Rattle.it_key_commands.proofs.signature_flaw.are_numbers.Goals as goal

pub signature_form-requires-clause-few : goal.signature_form-requires-clause-few
signature_form-requires-clause-few c = elim c.in-Some.ensures.of_curve [
  | inl is ↦ omega arith
  | inr is ↦ omega arith
]

pub returns : goal.returns
returns c = λ are. record {
  half = c.in-Some.half;
  halves = c.in-Some.ensures;
  valid = search rules;
}
