use Rattle.std.proofs.Common.{◌∙◌, ◌↔◌, IsTrue, rules, sym}
use Rattle.it_p384.specs.Signature.{IsSignature}
use Rattle.it_vectors.specs.Key.{IsP384Info}
use Rattle.it_vectors.proofs.OneKey.{of_one_key}
use Rattle.it_vectors.proofs.p384.is_p384_signature.Goals as goal

pub returns-in-Some : goal.returns-in-Some
returns-in-Some c =
    let key = c.in-Some.key in
    let message = c.args.message.now in
    let signature = c.args.signature.now in
    let judged : IsTrue c.is_signature.result ↔ IsSignature key message signature = search rules in
    of_one_key (IsP384Info c.args.info.now) (λ k. IsSignature k message signature) key
    (record { is_key = c.in-Some.ensures.0; info_is = c.in-Some.ensures.1 })
    (λ other tells. c.info_tells_key.ensures key other c.in-Some.ensures.0 tells.is_key
    (sym c.in-Some.ensures.1 ∙ tells.info_is)) c.is_signature.result judged
