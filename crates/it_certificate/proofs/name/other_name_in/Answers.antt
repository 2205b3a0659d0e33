use Rattle.std.proofs.Common.{◌∙◌, List, [], ◌∷◌, ℕ, Bor, get_or, ap, sym, refl}
use Rattle.it_certificate.specs.Name.{fulcio_name}
use Rattle.it_certificate.specs.Parts.{with_tags}
use Rattle.it_certificate.proofs.Naming.{as_two, two_are, other_kind, other_found}
use Rattle.it_certificate.proofs.Tags.{differs, agrees}
use Rattle.it_certificate.proofs.name.other_name_in.Goals as goal

pub returns-in_default : goal.returns-in_default
returns-in_default c = λ name is.
    let none = rw c.in_default.is at c.in_ok-contents.ensures in
    none (with_tags (6 ∷ 160 ∷ []) (fulcio_name ∷ is.text ∷ [])) is.parts refl

pub returns-then-ne : goal.returns-then-ne
returns-then-ne c =
    let read = rw c.in-Some.is at c.in_ok-contents.ensures in
    let xs = c.in-Some.contents.items in
    let d = c.index.result.now in
    other_kind c.args.content.now (get_or xs 0 d).now (get_or xs 1 d).now (as_two xs d c.args.content.now read.0 read.1)
    (λ same. differs d.now c.as_slice.result.now c.ne.result c.ne.ensures c.if-ne.true
    (ap (λ (b : Bor (List ℕ)). b.now) c.index.ensures ∙ same ∙ sym c.as_slice.ensures))

pub returns : goal.returns
returns c =
    let read = rw c.in-Some.is at c.in_ok-contents.ensures in
    let xs = c.in-Some.contents.items in
    other_found c.args.content.now c.index.result.now.now c.index-2.result.now.now c.content_of.result
    (two_are xs c.index.result.now c.index-2.result.now c.args.content.now read.0 c.index.ensures c.index-2.ensures read.1)
    (agrees c.index.result.now.now c.as_slice.result.now c.ne.result c.ne.ensures c.if-ne.false ∙ c.as_slice.ensures)
    c.content_of.ensures
