use Rattle.std.proofs.Common.{All}
use Rattle.it_rule_notes.proofs.CountingFiles.{Counts}
use Rattle.it_rule_notes.proofs.counting_file.counting_files.Given as goal

abbrev pub invariant-loop-file : goal.invariant-loop-file
invariant-loop-file g l =
    All (Counts (g.C.Checks.panel l.checks) l.level.moment l.level.layout.now
    l.level.links.now l.step l.id) l.found.items
