use Rattle.std.proofs.Common.{ap₂, ◌∙◌, Bool, ◌||◌, sym}
use Rattle.clap.specs.Words.{with_rule}
use Rattle.it_words.specs.inside.Rows.{rule_of_argument}
use Rattle.it_words.proofs.Folding.{one_more}
use Rattle.it_words.proofs.words.program.command_of.Goals as goal

pub loop-argument-preserved : goal.loop-argument-preserved
loop-argument-preserved c = record {
  app = c.in_ok-command.ensures.shape c.argument_of.ensures.local
      ∙ ap₂ with_rule c.loop-argument.invariant.app c.argument_of.ensures.rule
      ∙ sym (one_more with_rule rule_of_argument _ _ _ _ c.loop-argument-test.true);
  local = c.in_ok-command.ensures.globals
      ∙ ap₂ (λ (a b : Bool). a || b) c.loop-argument.invariant.local c.argument_of.ensures.local;
}
