-- The rows of the table of commands, in the parser's own terms.
use Rattle.std.specs.Prelude.{fold, map}
use Rattle.clap.specs.Words.{App, Rule, new_app, with_rule}
use Rattle.it_words.specs.Arguments.{
  bare_option,
  depth_option,
  free_words,
  json_option,
  most_checks_option,
  needed_option,
  needed_word,
  needed_words,
  plain_option,
  plain_options,
}
use Rattle.it_words.specs.declared.words.table.Argument.{Argument}
use Rattle.it_words.specs.declared.words.table.Argument.TheVariants as kinds
use Rattle.it_words.specs.declared.words.table.CommandRow.{CommandRow}

-- an argument
abbrev pub rule_of_argument : Argument → Rule
rule_of_argument (kinds.NeededWord name shown) = needed_word name.now
rule_of_argument (kinds.NeededWords name shown) = needed_words name.now
rule_of_argument (kinds.FreeWords name shown) = free_words name.now
rule_of_argument (kinds.NeededOption name shown) = needed_option name.now
rule_of_argument (kinds.PlainOption name shown) = plain_option name.now
rule_of_argument (kinds.PlainOptions name shown) = plain_options name.now
rule_of_argument (kinds.BareOption name) = bare_option name.now
rule_of_argument kinds.JsonForm = json_option
rule_of_argument kinds.Depth = depth_option
rule_of_argument kinds.MostChecks = most_checks_option

-- a command
abbrev pub app_of_row : CommandRow → App
app_of_row row = fold with_rule (new_app row.name.now) (map rule_of_argument row.arguments.now)
