use Rattle.std.proofs.Common.{ap, sym, ◌∙◌, option_and_then, option_map}
use Rattle.json.specs.Value.{value_view}
use Rattle.it_base.specs.Document.{present}
use Rattle.it_borrowed.specs.Tree.{data_of}
use Rattle.it_borrowed.proofs.Trees.{get-data_of, present-null, present-other}
use Rattle.it_borrowed.proofs.document.member.Goals as goal

pub returns-in-None : goal.returns-in-None
returns-in-None c =
    ap (λ o. option_and_then present (option_map data_of o)) c.in-None.ensures
    ∙ ap (option_and_then present)
    (sym (get-data_of c.args.name.now (value_view c.args.value.now)))

pub returns-in-Some : goal.returns-in-Some
returns-in-Some c =
    sym (present-null (value_view c.in-Some.found.now) (sym c.is_null.ensures ∙ c.if-is_null.true))
    ∙ ap (λ o. option_and_then present (option_map data_of o)) c.in-Some.ensures
    ∙ ap (option_and_then present)
    (sym (get-data_of c.args.name.now (value_view c.args.value.now)))

pub returns-in-Some-2 : goal.returns-in-Some-2
returns-in-Some-2 c =
    sym (present-other (value_view c.in-Some.found.now)
    (sym c.is_null.ensures ∙ c.if-is_null.false))
    ∙ ap (λ o. option_and_then present (option_map data_of o)) c.in-Some.ensures
    ∙ ap (option_and_then present)
    (sym (get-data_of c.args.name.now (value_view c.args.value.now)))
