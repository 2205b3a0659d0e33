use Rattle.it_certificate.proofs.Stating.{no_inner_elements, other_tag, other_value, more_read}
use Rattle.it_certificate.proofs.extensions.read_extensions.Goals as goal

pub returns-in_default-2 : goal.returns-in_default-2
returns-in_default-2 c =
    no_inner_elements c.args.content.now c.in-Some.inner.now c.in-Some.ensures
    (rw c.in_default-2.is at c.in_ok-elements.ensures)

pub returns-then-element-ne-SEQUENCE : goal.returns-then-element-ne-SEQUENCE
returns-then-element-ne-SEQUENCE c =
    other_tag c.args.content.now c.in-Some.inner.now c.deref-element-items.result.now c.in-Some-2.elements.items
    c.loop-element.element-index _ c.in-Some.ensures (rw c.in-Some-2.is at c.in_ok-elements.ensures)
    c.deref-element-items.ensures.value c.loop-element-test.true c.if-element-ne-SEQUENCE.true

pub returns-in_default-3 : goal.returns-in_default-3
returns-in_default-3 c =
    other_value c.args.content.now c.in-Some.inner.now c.deref-element-items.result.now c.in-Some-2.elements.items
    c.loop-element.element-index _ c.in-Some.ensures (rw c.in-Some-2.is at c.in_ok-elements.ensures)
    c.deref-element-items.ensures.value c.loop-element-test.true (rw c.in_default-3.is at c.in_ok-extension.ensures)

pub loop-element-preserved : goal.loop-element-preserved
loop-element-preserved c =
    more_read c.deref-element-items.result.now c.loop-element.element-index _ c.loop-element.extensions.items
    c.push.new.self.items c.in-Some-3.extension c.loop-element-test.true c.loop-element.invariant c.in_ok-push.ensures.items
    c.if-element-ne-SEQUENCE.false (rw c.in-Some-3.is at c.in_ok-extension.ensures)
