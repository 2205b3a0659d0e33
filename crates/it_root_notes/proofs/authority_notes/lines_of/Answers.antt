use Rattle.std.proofs.Common.{None, get_or}
use Rattle.std.proofs.lemmas.List.{get_or_default}
use Rattle.it_root_notes.specs.AuthorityText.{authority_text}
use Rattle.it_root_notes.proofs.Lines.{all_lines, one_line}
use Rattle.it_root_notes.proofs.authority_notes.lines_of.Goals as goal

pub loop-place-preserved : goal.loop-place-preserved
loop-place-preserved c =
    let shortfalls = c.args.shortfalls.now in
    let place = c.loop-place.place in
    let missed = get_or shortfalls place None in
    one_line authority_text place shortfalls _ c.loop-place.text.items c.loop-place.invariant missed
    c.push_authority.new.text.items c.loop-place-test.true
    (get_or_default shortfalls place None missed c.loop-place-test.true)
    c.in_ok-push_authority.ensures

pub returns : goal.returns
returns c =
    all_lines authority_text c.loop-place.place c.args.shortfalls.now _ c.loop-place.text.items
    c.loop-place.invariant c.loop-place-test.false
