use Rattle.std.proofs.Common.{ap, ap₂, ◌∙◌, fold, sym}
use Rattle.clap.specs.Words.{App, with_subcommand}
use Rattle.it_words.specs.Commands.{program, without_command}
use Rattle.it_words.specs.inside.Rows.{app_of_row}
use Rattle.it_words.proofs.Folding.{all_taken, one_more}
use Rattle.it_words.proofs.words.program.command.Goals as goal

pub loop-row-preserved : goal.loop-row-preserved
loop-row-preserved c =
    c.in_ok-program.ensures.shape c.in_ok-command_of.ensures.local
    ∙ ap₂ with_subcommand c.loop-row.invariant
    (ap (λ (app : App). app.top) c.in_ok-command_of.ensures.app)
    ∙ sym (one_more (λ app command. with_subcommand app command.top) app_of_row _ _ _ _
    c.loop-row-test.true)

pub returns : goal.returns
unfolding program
returns c = c.loop-row.invariant
    ∙ all_taken (λ app command. with_subcommand app command.top) app_of_row _ _ _
    c.loop-row-test.false
    ∙ ap (fold (λ app command. with_subcommand app command.top) without_command)
    c.rows-row-items.ensures
