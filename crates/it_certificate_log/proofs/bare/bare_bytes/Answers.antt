use Rattle.std.proofs.Common.{◌≤◌, ◌<◌, ◌^◌, length, map}
use Rattle.it_certificate.specs.Certificate.{facts_of}
use Rattle.it_certificate.specs.Extension.{stated_of}
use Rattle.it_certificate_log.proofs.Baring.{bare_part, content_is, wrap_few}
use Rattle.it_certificate_log.proofs.bare.bare_bytes.Goals as goal

pub part_of_others-requires : goal.part_of_others-requires
part_of_others-requires c =
    (c.args.certificate.now.parts.extensions.now, rw c.deref.ensures.value c.requires.certificate.says.extensions.are)

pub content_with-requires-clause-short : goal.content_with-requires-clause-short
content_with-requires-clause-short c =
    let own = c.args.certificate.now.parts.extensions.now in
    let all = map stated_of c.args.certificate.now.extensions.items in
    let is = rw c.deref.ensures.value at c.in_ok-extensions.ensures in
    rw c.deref-2.ensures.value
    (bare_part own c.in_ok-extensions.extensions.items all c.requires.certificate.says.extensions.are is)

pub append_element-requires : goal.append_element-requires
append_element-requires c =
    let own = c.args.certificate.now.parts.extensions.now in
    let all = map stated_of c.args.certificate.now.extensions.items in
    let is = rw c.deref.ensures.value at c.in_ok-extensions.ensures in
    let less : length c.deref-2.result.now ≤ length own = rw c.deref-2.ensures.value
    (bare_part own c.in_ok-extensions.extensions.items all c.requires.certificate.says.extensions.are is) in
    rw (c.deref-3.ensures.value, c.in_ok-content.ensures)
    (content_is c.requires.bytes (facts_of c.args.certificate.now) c.deref-2.result.now c.requires.certificate less).all

pub returns-clause-short : goal.returns-clause-short
returns-clause-short c =
    let own = c.args.certificate.now.parts.extensions.now in
    let all = map stated_of c.args.certificate.now.extensions.items in
    let is = rw c.deref.ensures.value at c.in_ok-extensions.ensures in
    let less : length c.deref-2.result.now ≤ length own = rw c.deref-2.ensures.value
    (bare_part own c.in_ok-extensions.extensions.items all c.requires.certificate.says.extensions.are is) in
    let short : length c.deref-3.result.now < 2 ^ 16 = rw (c.deref-3.ensures.value, c.in_ok-content.ensures)
    (content_is c.requires.bytes (facts_of c.args.certificate.now) c.deref-2.result.now c.requires.certificate less).all in
    rw (c.in_ok-append_element.ensures, c.new-bytes.ensures.items) (wrap_few 48 c.deref-3.result.now short)
