use Rattle.std.proofs.Common.{◌≡◌, fold, map, take, false}
use Rattle.clap.specs.Words.{app_of, new_app, with_rule}
use Rattle.clap.specs.declared.builder.command.Command.TheViews.{out-Command}
use Rattle.it_words.specs.inside.Rows.{rule_of_argument}
use Rattle.it_words.proofs.words.program.command_of.Given as goal

abbrev pub invariant-loop-argument : goal.invariant-loop-argument
invariant-loop-argument l = record {
  app : app_of l.command ≡ fold with_rule (new_app l.row.name.now)
      (map rule_of_argument (take l.argument-index l.row.arguments.now));
  local : (out-Command l.command).has_globals ≡ false;
}
