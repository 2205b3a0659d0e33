use Rattle.std.proofs.Common.{◌≡◌, ◌∙◌, Some, ap, rules, sym}
use Rattle.it_p384.specs.Key.{info_of}
use Rattle.it_pem.specs.PublicKeyText.{info_in}
use Rattle.it_public_keys.specs.declared.key.Key.{Key}
use Rattle.it_public_keys.proofs.DecodedKeys.{p384_missing, p384_there}
use Rattle.it_public_keys.proofs.KeyNames.{short_p384}
use Rattle.it_public_keys.proofs.named_key.p384_key.Goals as goal

pub new-requires-clause-few : goal.new-requires-clause-few
new-requires-clause-few c =
    let key = c.in-Some-from_info.key in
    let same : c.as_bytes-in-Some-from_info.result.now ≡ info_of key =
    c.as_bytes-in-Some-from_info.ensures ∙ sym c.as_bytes.ensures
    ∙ c.in-Some-from_info.ensures.1 in
    rw same (short_p384 key)

pub returns-in-Some-from_info : goal.returns-in-Some-from_info
returns-in-Some-from_info c =
    let text : info_in c.args.public.now ≡ Some c.in-Some.info = search rules in
    ap (λ (key : Key). Some key) c.new.ensures
    ∙ rw text (sym (p384_there c.in-Some.info c.in-Some-from_info.key
    c.in-Some-from_info.ensures.0 (sym c.as_bytes.ensures ∙ c.in-Some-from_info.ensures.1)))

pub returns-in-None : goal.returns-in-None
returns-in-None c =
    let text : info_in c.args.public.now ≡ Some c.in-Some.info = search rules in
    rw text (p384_missing c.in-Some.info
    (λ key is same. c.in-None.ensures key is (c.as_bytes.ensures ∙ same)))
