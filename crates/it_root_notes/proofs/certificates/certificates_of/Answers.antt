use Rattle.std.proofs.lemmas.List.Elements.{All-nil}
use Rattle.it_certificate_log.specs.Bare.{WasRead}
use Rattle.it_issued.proofs.Reading.{all_read, read_more}
use Rattle.it_root_notes.proofs.Unread.{one_unread}
use Rattle.it_root_notes.proofs.certificates.certificates_of.Goals as goal

pub loop-place-init : goal.loop-place-init
loop-place-init c = record {
  each = rw c.new-certificates.ensures.items tt;
  all = rw c.new-certificates.ensures.items (All-nil WasRead);
}

pub returns-in-Err : goal.returns-in-Err
returns-in-Err c =
    one_unread c.in-Err.reason 0 c.loop-place.place c.args.listed.now _
    c.index-listed-place.result c.loop-place-test.true c.index-listed-place.is
    c.loop-place.invariant.each
    (rw (c.in-Err.is, c.as_slice.ensures) at c.in_ok-certificate.ensures)

pub loop-place-preserved : goal.loop-place-preserved
loop-place-preserved c =
    let read =
    rw (c.in-Ok.is, c.as_slice.ensures) at c.in_ok-certificate.ensures in
    read_more c.args.listed.now c.loop-place.place c.index-listed-place.result
    c.loop-place.certificates.items c.push.new.self.items c.in-Ok.certificate
    c.loop-place-test.true c.index-listed-place.is c.loop-place.invariant read.0 read.1
    c.in_ok-push-in-Ok.ensures.items

pub returns : goal.returns
returns c =
    let all = all_read c.args.listed.now c.loop-place.place c.loop-place.certificates.items
    c.loop-place-test.false c.loop-place.invariant in
    (all.each, all.all)
