use Rattle.std.proofs.Common.{◌≡◌, ◌∙◌, List, [], IsTrue, Some, ap, option_and_then, refl, subst, sym}
use Rattle.json.specs.Json.{if_last, value}
use Rattle.json.specs.Token.{Token}
use Rattle.json.specs.Lex.{tokens}
use Rattle.serde_json.specs.Read.{max_depth}
use Rattle.it_skim.proofs.Objects.{last, whole_text}
use Rattle.it_skim.proofs.text_member.object_has_text.Goals as goal

pub returns-then-not-branch : goal.returns-then-not-branch
returns-then-not-branch c = (
  λ yes. absurd (cc yes),
  λ it.
      let text : c.in_ok-reader.reader ≡ tokens c.args.bytes.now = c.in_ok-reader.ensures.ok
      ∙ ap tokens c.in-Ok.ensures.cases.0 in
      let e : value max_depth c.in_ok-reader.reader ≡ Some (it.tree, []) =
      ap (value max_depth) text ∙ last _ it.tree it.is_tree in
      let has = c.in_ok-object_has.ensures.only it.tree [] e it.has in
      absurd (cc has.0),
)

pub returns : goal.returns
returns c =
    let text : c.in_ok-reader.reader ≡ tokens c.args.bytes.now = c.in_ok-reader.ensures.ok
    ∙ ap tokens c.in-Ok.ensures.cases.0 in (
      λ yes.
          let read = c.in_ok-object_has.ensures.here (subst IsTrue (sym c.if-not-branch.false) refl) in
          record {
            utf8 = c.in-Ok.ensures.cases.1;
            tree = read.0;
            is_tree = subst (λ (ts : List Token). option_and_then (λ p. if_last p.0 p.1) (value max_depth ts) ≡ Some read.0) text
                (whole_text (value max_depth c.in_ok-reader.reader) read.0 c.object_has.new.reader
                read.1 (c.is_at_end.ensures.0 yes));
            has = read.2;
          },
      λ it.
          let e : value max_depth c.in_ok-reader.reader ≡ Some (it.tree, []) =
          ap (value max_depth) text ∙ last _ it.tree it.is_tree in
          let here = c.in_ok-object_has.ensures.only it.tree [] e it.has in
          c.is_at_end.ensures.1 (sym here.1),
    )
