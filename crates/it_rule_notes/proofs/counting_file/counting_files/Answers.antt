use Rattle.std.proofs.Common.{◌<◌, Contains, arith, length, subst, sym}
use Rattle.std.proofs.lemmas.List.Elements.{Contains-get_or}
use Rattle.it_rule_notes.proofs.CountingFiles.{more_counting}
use Rattle.it_rule_notes.proofs.counting_file.counting_files.Goals as goal

pub loop-file-preserved : goal.loop-file-preserved
loop-file-preserved g c =
    let panel = g.C.Checks.panel c.args.checks.now in
    let files = c.files-file-items.result.now in
    let below : c.loop-file.file-index < length files = omega arith in
    let stands = subst (Contains files) (sym c.file-item.is)
    (Contains-get_or files c.loop-file.file-index c.file-item.result below) in
    rw c.in_ok-push_some.ensures
    (more_counting panel c.args.level.now.moment c.args.level.now.layout.now
    c.args.level.now.links.now c.args.step.now c.args.id.now c.in-Some.signer
    c.in-Some.ensures.0 c.in-Some.ensures.1 c.file-item.result
    (rw c.files-file-items.ensures at stands) c.loop-file.found.items c.in_ok-counting.counting
    c.loop-file.invariant (rw c.as_str.ensures at c.in_ok-counting.ensures))
