use Rattle.std.proofs.Common.{◌≡◌, ◌∙◌, None, Some, subst}
use Rattle.std.proofs.lemmas.Option.{same_Some}
use Rattle.it_public_keys.specs.KeyNames.{IsOfBytes}
use Rattle.it_public_keys.proofs.Described.{decoded_is_described}
use Rattle.it_public_keys.proofs.number_laws.described_is_of_bytes.Goals as goal

pub returns-in-Some : goal.returns-in-Some
returns-in-Some c = λ key is described.
    (let there = (decoded_is_described c.args.object.now key).1 (is, described) in
    subst IsOfBytes (same_Some c.in-Some.key key (c.in-Some.ensures ∙ there))
    c.is_of_bytes.ensures)

pub returns-in_default : goal.returns-in_default
returns-in_default c = λ key is described.
    (let there = (decoded_is_described c.args.object.now key).1 (is, described) in
    let clash : None ≡ Some key = c.in_default.ensures ∙ there in
    absurd (cc))
