use Rattle.it_certificate.specs.Extension.{stated_of}
use Rattle.it_certificate_log.proofs.Baring.{content_written, parts_short}
use Rattle.it_certificate_log.proofs.bare.extension_content.Goals as goal

pub append_element-requires : goal.append_element-requires
append_element-requires c = (parts_short (stated_of c.args.extension.now) c.requires).0

pub append_element-requires-2 : goal.append_element-requires-2
append_element-requires-2 c = (parts_short (stated_of c.args.extension.now) c.requires).1

pub returns : goal.returns
returns c =
    content_written (stated_of c.args.extension.now) c.new-content.result.items c.append_element.new.bytes.items
    c.append_critical.new.bytes.items c.append_element-2.new.bytes.items c.requires c.new-content.ensures.items
    c.in_ok-append_element.ensures c.in_ok-append_critical.ensures c.in_ok-append_element-2.ensures
