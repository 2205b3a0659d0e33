use Rattle.std.proofs.Common.{◌∙◌, List, map, ap, sym}
use Rattle.it_der.specs.declared.elements.Element.{Element}
use Rattle.it_certificate.proofs.Tags.{differs, agrees, other_tags, with_them}
use Rattle.it_certificate.proofs.contents.contents_under.Goals as goal

pub returns-then-ne : goal.returns-then-ne
returns-then-ne c =
    let items = c.in-Some.elements.items in
    other_tags c.args.bytes.now c.args.tags.now c.in_ok-found.found.items items
    (rw c.in-Some.is at c.in_ok-elements.ensures)
    (c.in_ok-found.ensures ∙ ap (λ (xs : List Element). map (λ (e : Element). e.tag) xs) c.deref.ensures.value)
    (λ same. differs c.as_slice.result.now c.args.tags.now c.ne.result c.ne.ensures c.if-ne.true (c.as_slice.ensures.value ∙ same))

pub returns : goal.returns
returns c =
    let items = c.in-Some.elements.items in
    with_them c.args.bytes.now c.args.tags.now c.in_ok-found.found.items items c.in_ok-contents.contents.items
    (rw c.in-Some.is at c.in_ok-elements.ensures)
    (c.in_ok-found.ensures ∙ ap (λ (xs : List Element). map (λ (e : Element). e.tag) xs) c.deref.ensures.value)
    (sym c.as_slice.ensures.value ∙ agrees c.as_slice.result.now c.args.tags.now c.ne.result c.ne.ensures c.if-ne.false)
    (c.in_ok-contents.ensures ∙ ap (λ (xs : List Element). map (λ (e : Element). e.content) xs) c.deref-2.ensures.value)
