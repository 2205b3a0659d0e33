use Rattle.it_certificate.specs.Certificate.{facts_of}
use Rattle.it_certificate_log.proofs.Baring.{content_is, eight_written}
use Rattle.it_certificate_log.proofs.bare.content_with.Goals as goal

pub append_element-requires : goal.append_element-requires
append_element-requires c =
    (content_is c.requires.read.bytes (facts_of c.args.certificate.now) c.args.extensions.now c.requires.read.certificate
    c.requires.short).each.0

pub append_element-requires-2 : goal.append_element-requires-2
append_element-requires-2 c =
    (content_is c.requires.read.bytes (facts_of c.args.certificate.now) c.args.extensions.now c.requires.read.certificate
    c.requires.short).each.1.0

pub append_element-requires-3 : goal.append_element-requires-3
append_element-requires-3 c =
    (content_is c.requires.read.bytes (facts_of c.args.certificate.now) c.args.extensions.now c.requires.read.certificate
    c.requires.short).each.1.1.0

pub append_element-requires-4 : goal.append_element-requires-4
append_element-requires-4 c =
    (content_is c.requires.read.bytes (facts_of c.args.certificate.now) c.args.extensions.now c.requires.read.certificate
    c.requires.short).each.1.1.1.0

pub append_element-requires-5 : goal.append_element-requires-5
append_element-requires-5 c =
    (content_is c.requires.read.bytes (facts_of c.args.certificate.now) c.args.extensions.now c.requires.read.certificate
    c.requires.short).each.1.1.1.1.0

pub append_element-requires-6 : goal.append_element-requires-6
append_element-requires-6 c =
    (content_is c.requires.read.bytes (facts_of c.args.certificate.now) c.args.extensions.now c.requires.read.certificate
    c.requires.short).each.1.1.1.1.1.0

pub append_element-requires-7 : goal.append_element-requires-7
append_element-requires-7 c =
    (content_is c.requires.read.bytes (facts_of c.args.certificate.now) c.args.extensions.now c.requires.read.certificate
    c.requires.short).each.1.1.1.1.1.1.0

pub append_element-requires-8 : goal.append_element-requires-8
append_element-requires-8 c =
    (content_is c.requires.read.bytes (facts_of c.args.certificate.now) c.args.extensions.now c.requires.read.certificate
    c.requires.short).each.1.1.1.1.1.1.1.0

pub returns : goal.returns
returns c =
    eight_written c.new-content.result.items _ _ _ _ _ _ _ _ _ _ _ _ _ _ _ _ c.new-content.ensures.items c.in_ok-append_element.ensures
    c.in_ok-append_element-2.ensures c.in_ok-append_element-3.ensures c.in_ok-append_element-4.ensures
    c.in_ok-append_element-5.ensures c.in_ok-append_element-6.ensures c.in_ok-append_element-7.ensures
    c.in_ok-append_element-8.ensures
