use Rattle.std.proofs.Common.{None, Some, lit<}
use Rattle.std.proofs.lemmas.Str.Pattern.{split_parts}
use Rattle.it_memory.proofs.NamesAfter.{after_front, up_to_slash, whole_rest}
use Rattle.it_memory.proofs.names.name_after.Goals as goal

pub returns-in-Some : goal.returns-in-Some
returns-in-Some c =
    let front = c.args.front.now in
    let path = c.args.path.now in
    let inside = c.in_ok-inside.inside.now in
    let name = c.in-Some.name in
    let more = c.in-Some.field-0-1 in
    let parts = split_parts 47 inside (Some (name, more)) c.in-Some.ensures.cases (lit< tt) in
    up_to_slash front path inside name.now more.now
    (after_front front path inside c.in_ok-inside.ensures.cases) parts.0 parts.1

pub returns-in-None : goal.returns-in-None
returns-in-None c =
    let front = c.args.front.now in
    let path = c.args.path.now in
    let inside = c.in_ok-inside.inside.now in
    whole_rest front path inside (after_front front path inside c.in_ok-inside.ensures.cases)
    (split_parts 47 inside None c.in-None.ensures.cases (lit< tt))
