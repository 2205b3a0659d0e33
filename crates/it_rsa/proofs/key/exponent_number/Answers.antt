use Rattle.std.proofs.Common.{◌+◌, ◌*◌, ◌<◌, ◌∙◌, sym, ap, arith, rules, get_or}
use Rattle.it_numbers.proofs.Big.{big_none, big_more, big_all}
use Rattle.it_rsa.proofs.Keys.{one_byte_more}
use Rattle.it_rsa.proofs.key.exponent_number.Goals as goal

pub loop-i-init : goal.loop-i-init
loop-i-init c = record { value = sym (big_none c.args.bytes.now); small = omega arith }

pub loop-i-preserved : goal.loop-i-preserved
loop-i-preserved c =
    let l = c.loop-i in
    let byte : get_or c.args.bytes.now l.i 0 < 256 = search rules in
    record {
      value = ap (λ n. 256 * n + get_or c.args.bytes.now l.i 0) l.invariant.value ∙ sym (big_more c.args.bytes.now l.i (omega arith));
      small = one_byte_more l.number l.i _ byte l.invariant.small;
    }

pub returns : goal.returns
returns c = c.loop-i.invariant.value ∙ big_all c.args.bytes.now c.loop-i.i (omega arith)
