use Rattle.std.proofs.Common.{◌∙◌, ap, true}
use Rattle.clap.specs.Simple.{app_of_fields}
use Rattle.clap.specs.Words.{App}
use Rattle.clap.specs.declared.builder.command.Command.{Command}
use Rattle.clap.specs.declared.builder.command.Command.TheOpen.{Command-F}
use Rattle.it_words.proofs.words.program.without_command.Goals as goal

pub returns : goal.returns
returns c =
    ap app_of_fields (c.subcommand_required.ensures
    ∙ ap (λ (fields : Command-F Command). record fields { subcommand_required = true })
    (c.disable_help_subcommand.ensures
    ∙ ap (λ (fields : Command-F Command). record fields { disable_help_subcommand = true })
    c.disable_help_flag.ensures))
    ∙ ap (λ (app : App). record app {
      top = record app.top {
        disable_help_flag = true;
        disable_help_subcommand = true;
        subcommand_required = true;
      };
    }) c.new.ensures.app
