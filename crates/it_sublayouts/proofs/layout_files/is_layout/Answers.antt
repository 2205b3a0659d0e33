use Rattle.std.proofs.Common.{IsTrue}
use Rattle.std.specs.Prelude.{codes}
use Rattle.it_base.proofs.Found.{finds_some}
use Rattle.it_docs.specs.Layout.{LayoutOf}
use Rattle.it_skim.proofs.Texts.{text_of_document}
use Rattle.it_sublayouts.proofs.layout_files.is_layout.Goals as goal

pub returns-then-not-branch : goal.returns-then-not-branch
returns-then-not-branch c = (
  λ yes. absurd (cc yes),
  λ it.
      let has : IsTrue c.in_ok-object_has_text.field-0 = c.in_ok-object_has_text.ensures.1
      (text_of_document c.args.payload.now it.1.0 (codes "_type") (codes "layout") it.1.1
      it.1.2.type_is) in
      absurd (cc has),
)

pub returns : goal.returns
returns c = rw c.is_some.ensures
    (finds_some (LayoutOf c.args.payload.now) c.in_ok-layout.layout c.in_ok-layout.ensures)
