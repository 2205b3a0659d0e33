use Rattle.std.proofs.Common.{◌≡◌, ◌≤◌, length, arith, rules, sym, ◌∙◌, ap}
use Rattle.it_numbers.specs.Bytes.{big_bytes}
use Rattle.it_numbers.proofs.Big.{length-big_bytes}
use Rattle.it_rsa.specs.Signature.{representative}
use Rattle.it_rsa.proofs.Verdicts.{wrong_length, not_below, signature_judged}
use Rattle.it_rsa.proofs.signature.is_signature_of_digest.Goals as goal

pub returns-then-signature-size : goal.returns-then-signature-size
returns-then-signature-size c = wrong_length c.args.key.now c.args.digest.now c.args.signature.now _ c.size.ensures.value c.if-signature-size.true

pub returns-then-not-is_above : goal.returns-then-not-is_above
returns-then-not-is_above c = not_below c.args.key.now c.args.digest.now c.args.signature.now _ c.is_above.ensures c.if-not-is_above.true

pub returns : goal.returns
returns c =
    let key = c.args.key.now in
    let signature = c.args.signature.now in
    let copied : c.copy_from_slice.new.self ≡ signature = search rules in
    let size : length key.modulus ≡ c.size.result = sym c.size.ensures.value in
    let least : 256 ≤ c.size.result = c.size.ensures.least in
    let opened : c.open.new.signature ≡ big_bytes (length key.modulus) (representative key signature) = rw copied at c.open.ensures in
    signature_judged key c.args.digest.now signature c.open.new.signature c.is_above.result c.is_encoded.result (omega arith)
    (c.if-signature-size.false ∙ c.size.ensures.value) c.is_above.ensures c.if-not-is_above.false opened (ap length opened ∙ length-big_bytes (length key.modulus) _)
    c.is_encoded.ensures
