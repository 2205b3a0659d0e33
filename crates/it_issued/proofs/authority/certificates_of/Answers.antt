use Rattle.std.proofs.lemmas.List.Elements.{All-nil}
use Rattle.it_certificate_log.specs.Bare.{WasRead}
use Rattle.it_issued.proofs.Reading.{all_read, none_reads, read_more}
use Rattle.it_issued.proofs.authority.certificates_of.Goals as goal

pub loop-raw-init : goal.loop-raw-init
loop-raw-init c = record { each = rw c.new-certificates.ensures.items tt; all = rw c.new-certificates.ensures.items (All-nil WasRead) }

pub returns-in_default : goal.returns-in_default
returns-in_default c =
    none_reads c.args.listed.now c.loop-raw.raw-index c.raw-item.result c.loop-raw-test.true c.raw-item.is
    (rw (c.in_default.is, c.as_slice.ensures) at c.in_ok-certificate.ensures)

pub loop-raw-preserved : goal.loop-raw-preserved
loop-raw-preserved c =
    let read = rw (c.in-Some.is, c.as_slice.ensures) at c.in_ok-certificate.ensures in
    read_more c.args.listed.now c.loop-raw.raw-index c.raw-item.result c.loop-raw.certificates.items c.push.new.self.items
    c.in-Some.certificate c.loop-raw-test.true c.raw-item.is c.loop-raw.invariant read.0 read.1 c.in_ok-push.ensures.items

pub returns : goal.returns
returns c =
    let all = all_read c.args.listed.now c.loop-raw.raw-index c.loop-raw.certificates.items c.loop-raw-test.false c.loop-raw.invariant in
    (all.each, all.all)
