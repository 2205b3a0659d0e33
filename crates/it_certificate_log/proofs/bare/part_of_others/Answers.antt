use Rattle.it_certificate_log.proofs.Baring.{others_all, others_more, others_short, read_at}
use Rattle.it_certificate_log.proofs.bare.part_of_others.Goals as goal

pub append_other-requires : goal.append_other-requires
append_other-requires c =
    read_at c.requires.0 c.args.extensions.now c.loop-extension.extension-index _ c.requires.1 c.loop-extension-test.true

pub loop-extension-preserved : goal.loop-extension-preserved
loop-extension-preserved c =
    others_more c.loop-extension.content.items c.append_other.new.bytes.items c.args.extensions.now
    c.loop-extension.extension-index _ c.loop-extension-test.true c.loop-extension.invariant c.in_ok-append_other.ensures

pub append_element-requires : goal.append_element-requires
append_element-requires c =
    rw c.deref.ensures.value (others_short c.requires.0 c.loop-extension.content.items c.args.extensions.now
    c.loop-extension.extension-index c.requires.1 c.loop-extension-test.false c.loop-extension.invariant)

pub returns : goal.returns
returns c =
    others_all c.loop-extension.content.items c.deref.result.now c.append_element.new.bytes.items c.args.extensions.now
    c.loop-extension.extension-index c.loop-extension-test.false c.loop-extension.invariant c.deref.ensures.value
    c.new-part.result.items c.new-part.ensures.items c.in_ok-append_element.ensures
