use Rattle.std.proofs.Common.{arith}
use Rattle.std.proofs.lemmas.Bool.Decides.{nat_tests}
use Rattle.it_docs.proofs.Rules.{no_prefixed}
use Rattle.it_docs.proofs.rule.prefixed_match.Goals as goal
use Rattle.it_docs.proofs.rule.prefixed_match.Goals.{in_default-via-then-texts-lt8}
use Rattle.it_docs.proofs.rule.prefixed_match.Goals.{
  in_default-via-else-texts-lt8+else-texts-lt9+then-texts-lt10,
}
use Rattle.it_docs.proofs.rule.prefixed_match.Goals.{
  in_default-via-else-texts-lt8+else-texts-lt9+else-texts-lt10+else-texts-lt11,
}

pub returns-in_default : goal.returns-in_default
returns-in_default c =
    elim c.in_default.branch [
      | in_default-via-then-texts-lt8 w ↦ no_prefixed c.args.texts.now (grind (arith, nat_tests))
          (grind (arith, nat_tests))
      | in_default-via-else-texts-lt8+else-texts-lt9+then-texts-lt10 w ↦ no_prefixed
          c.args.texts.now (grind (arith, nat_tests)) (grind (arith, nat_tests))
      | in_default-via-else-texts-lt8+else-texts-lt9+else-texts-lt10+else-texts-lt11 w ↦ no_prefixed
          c.args.texts.now (grind (arith, nat_tests)) (grind (arith, nat_tests))
    ]
