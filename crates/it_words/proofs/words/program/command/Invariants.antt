use Rattle.std.proofs.Common.{◌≡◌, fold, map, take}
use Rattle.clap.specs.Words.{app_of, with_subcommand}
use Rattle.it_words.specs.Commands.{without_command}
use Rattle.it_words.specs.inside.Rows.{app_of_row}
use Rattle.it_words.proofs.words.program.command.Given as goal

abbrev pub invariant-loop-row : goal.invariant-loop-row
invariant-loop-row l = app_of l.program ≡ fold (λ app command. with_subcommand app command.top)
    without_command (map app_of_row (take l.row-index l.row-items))
