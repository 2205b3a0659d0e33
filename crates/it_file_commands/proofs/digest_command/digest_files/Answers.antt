use Rattle.std.proofs.Common.{◌≡◌, ◌∙◌, ◌+◌, ◌++◌, ◌∷◌, [], take, sym, ap, subst}
use Rattle.std.proofs.KnownBytes.{Appends-nil, Appends-trans}
use Rattle.std.proofs.lemmas.List.{take_all, take_more}
use Rattle.it_digest.specs.Sums.{algorithm_of}
use Rattle.it_file_commands.specs.Commands.{AreLinesOf, no_line, one_more}
use Rattle.it_file_commands.proofs.digest_command.digest_files.Goals as goal

pub loop-file-init : goal.loop-file-init
loop-file-init g c = ([], no_line, Appends-nil _)

pub loop-file-preserved : goal.loop-file-preserved
loop-file-preserved g c =
    let files = c.args.files.now in
    let i = c.loop-file.file-index in
    let more : take (i + 1) files ≡ take i files ++ c.file-item.result ∷ [] =
    take_more files i c.file-item.result c.loop-file-test.true
    ∙ ap (λ x. take i files ++ x ∷ []) (sym c.file-item.is) in
    let before = c.loop-file.invariant in
    let told = c.in_ok-digest_file.ensures.ok in (
      before.0 ++ told.0,
      subst (λ listed. AreLinesOf (g.R.Disk.holdings c.args.rt.now)
          (algorithm_of c.args.algorithm) listed (before.0 ++ told.0)) (sym more)
          (one_more before.1 told.1),
      Appends-trans _ _ _ before.0 told.0 before.2 told.2,
    )

pub returns : goal.returns
returns g c =
    let files = c.args.files.now in
    let told = c.loop-file.invariant in
    let disk = g.R.Disk.holdings c.args.rt.now in
    let all : take c.loop-file.file-index files ≡ files =
    take_all c.loop-file.file-index files c.loop-file-test.false in
    record {
      ok = (told.0, subst (λ listed. AreLinesOf disk (algorithm_of c.args.algorithm) listed told.0) all told.1, told.2);
      stopped = tt;
    }
