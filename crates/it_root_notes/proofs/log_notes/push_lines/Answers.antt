use Rattle.it_root_notes.specs.LogText.{log_text}
use Rattle.it_root_notes.proofs.Lines.{all_lines, one_line}
use Rattle.it_root_notes.proofs.log_notes.push_lines.Goals as goal

pub loop-place-preserved : goal.loop-place-preserved
loop-place-preserved c =
    one_line (log_text c.args.list.now) c.loop-place.place c.args.logs.now _ c.loop-place.text.items
    c.loop-place.invariant c.index-logs-place.result c.push_log.new.text.items
    c.loop-place-test.true c.index-logs-place.is c.in_ok-push_log.ensures

pub returns : goal.returns
returns c =
    all_lines (log_text c.args.list.now) c.loop-place.place c.args.logs.now _
    c.loop-place.text.items c.loop-place.invariant c.loop-place-test.false
