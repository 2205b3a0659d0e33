use Rattle.std.proofs.Common.{◌≡◌, ◌∙◌, ap, subst}
use Rattle.std.specs.Io.KnownBytes.{Appends}
use Rattle.it_json_report.specs.FullReport.{findings_json_of}
use Rattle.it_verify_command.specs.FoundOutput.{found_shown}
use Rattle.it_verify_command.proofs.telling.write_object.Goals as goal

pub returns-clause-ok : goal.returns-clause-ok
returns-clause-ok g c =
    let old = g.W.Write.contents c.args.out.now in
    let new = g.W.Write.contents c.put_text.new.out in
    let shown : c.as_slice.result.now ≡ found_shown c.args.found.now =
    c.as_slice.ensures.value ∙ c.in_ok-findings.ensures in
    let text : c.as_slice-2.result.now ≡ findings_json_of (found_shown c.args.found.now) =
    c.as_slice-2.ensures.value ∙ c.in_ok-text.ensures ∙ ap findings_json_of shown in
    subst (Appends old new) text c.in_ok-put_text.ensures.ok.1
