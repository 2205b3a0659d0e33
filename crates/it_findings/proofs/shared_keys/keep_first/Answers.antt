use Rattle.std.proofs.Common.{◌∙◌, sym, ap}
use Rattle.std.specs.FinMap.{get}
use Rattle.it_findings.specs.inside.FirstPlaces.{name_of}
use Rattle.it_findings.proofs.FirstPlaces.{is_missing, is_there, kept, put}
use Rattle.it_findings.proofs.shared_keys.keep_first.Goals as goal

pub returns-then-is_some : goal.returns-then-is_some
returns-then-is_some c =
    let key = c.args.key.now in
    let places = c.args.places.now in
    let named = c.as_str.ensures.value ∙ c.in_ok-name.ensures in
    let there = is_there c.get.result (get places (name_of key)) (sym c.if-is_some.ensures)
    (c.get.ensures ∙ ap (get places) named) in
    kept key c.args.place places there.0 there.1

pub returns : goal.returns
returns c =
    let key = c.args.key.now in
    let places = c.args.places.now in
    let named = c.as_str.ensures.value ∙ c.in_ok-name.ensures in
    let none = is_missing c.get.result (get places (name_of key)) (sym c.if-is_some.ensures)
    (c.get.ensures ∙ ap (get places) named) in
    rw (c.in_ok-insert.ensures.ok, c.in_ok-name.ensures)
    (put key c.args.place places none)
