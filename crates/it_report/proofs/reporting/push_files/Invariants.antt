use Rattle.std.proofs.Common.{◌≡◌, ◌++◌, take}
use Rattle.std.specs.List.{flat_map}
use Rattle.it_report.specs.Report.{file_line}
use Rattle.it_report.proofs.reporting.push_files.Given as goal

abbrev pub invariant-loop-file : goal.invariant-loop-file
invariant-loop-file l = l.text.items ≡ l.fn.text.items
    ++ flat_map file_line (take l.file-index l.files)
