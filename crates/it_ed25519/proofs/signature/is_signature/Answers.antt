use Rattle.std.proofs.Common.{◌≡◌, ◌∙◌, ℕ, List, ap, drop, length, arith, rules}
use Rattle.it_message.specs.Message.{joined}
use Rattle.it_ed25519.specs.Signature.{challenge_of}
use Rattle.it_ed25519.proofs.Judging.{refused, judged}
use Rattle.it_ed25519.proofs.signature.is_signature.Goals as goal

pub returns-in-None : goal.returns-in-None
returns-in-None c =
    let last : c.copy_from_slice.new.self ≡ drop 32 c.args.signature.now = search rules in
    refused c.args.key.now (joined c.args.message.now) c.args.signature.now c.copy_from_slice.new.self _ last
    c.from_bytes.ensures c.in-None.is

pub returns-in-Some : goal.returns-in-Some
returns-in-Some c =
    let last : c.copy_from_slice.new.self ≡ drop 32 c.args.signature.now = search rules in
    let long : length c.args.signature.now ≡ 64 = omega arith in
    judged c.args.key.now (joined c.args.message.now) c.args.signature.now c.split_at.result.0.now c.copy_from_slice.new.self
    _ _ _ _ _ c.eq.result c.as_bytes.ensures.key long c.split_at.ensures.front last c.from_bytes.ensures c.in-Some.is
    (c.challenge-k.ensures ∙ ap (λ (key : List ℕ). challenge_of c.split_at.result.0.now key (joined c.args.message.now)) c.as_bytes.ensures.bytes)
    c.first_half-expected.ensures c.as_slice.ensures c.eq.ensures
