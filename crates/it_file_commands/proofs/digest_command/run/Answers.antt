use Rattle.std.proofs.Common.{refl}
use Rattle.it_file_commands.proofs.digest_command.run.Goals as goal
use Rattle.it_file_commands.proofs.digest_command.run.Goals.{then-words+in_ok-files+in_ok-digest_files}
use Rattle.it_file_commands.proofs.digest_command.run.Goals.{else-words+in_ok-digest_files-2}

pub returns : goal.returns
returns g c = record {
  ok = elim c.if-words.branch [
    | then-words+in_ok-files+in_ok-digest_files w ↦
        let told = w.in_ok-digest_files.ensures.ok in (
          told.0,
          record {
            files = w.in_ok-files.files.items;
            are_named = rw w.if-words.true
                (rw c.as_slice-paths.ensures at w.in_ok-files.ensures);
            are_lines = rw (w.as_slice.ensures.value, c.algorithm_asked_by-algorithm.ensures) at told.1;
            status_is = refl;
          },
          rw w.out-is told.2,
        )
    | else-words+in_ok-digest_files-2 w ↦
        let told = w.in_ok-digest_files-2.ensures.ok in (
          told.0,
          record {
            files = c.args.words.now.paths;
            are_named = rw w.if-words.false refl;
            are_lines = rw (c.as_slice-paths.ensures, c.algorithm_asked_by-algorithm.ensures) at told.1;
            status_is = refl;
          },
          rw w.out-is told.2,
        )
  ];
  stopped = tt;
}
