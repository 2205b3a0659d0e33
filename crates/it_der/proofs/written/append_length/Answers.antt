use Rattle.it_der.proofs.Writing.{short_written, one_written, two_written}
use Rattle.it_der.proofs.written.append_length.Goals as goal

pub returns-then-length-lt128 : goal.returns-then-length-lt128
returns-then-length-lt128 c =
    short_written c.args.bytes.now.items c.push.new.self.items c.args.length c.if-length-lt128.true c.in_ok-push.ensures.items

pub returns-then-length-lt256 : goal.returns-then-length-lt256
returns-then-length-lt256 c =
    one_written c.args.bytes.now.items c.push-then-length-lt256.new.self.items c.push-then-length-lt256-2.new.self.items c.args.length
    c.if-length-lt128.false c.if-length-lt256.true c.in_ok-push-2.ensures.items c.in_ok-push-3.ensures.items

pub returns : goal.returns
returns c =
    two_written c.args.bytes.now.items c.push-2.new.self.items c.push-3.new.self.items c.push-4.new.self.items c.args.length
    c.if-length-lt256.false c.in_ok-push-4.ensures.items c.in_ok-push-5.ensures.items c.in_ok-push-6.ensures.items
