use Rattle.std.proofs.Common.{◌≡◌, ◌∙◌, Ok, Some, ap, rules, sym}
use Rattle.hex.specs.Hex.{decode_sized}
use Rattle.it_ed25519.specs.PublicKey.{IsPublicKey}
use Rattle.it_public_keys.specs.declared.key.Key.{Key}
use Rattle.it_public_keys.proofs.DecodedKeys.{ed25519_missing, ed25519_there}
use Rattle.it_public_keys.proofs.named_key.ed25519_key.Goals as goal

pub returns-in-Some : goal.returns-in-Some
returns-in-Some c =
    let digits : decode_sized c.args.public.now 32 ≡ Ok c.in-Ok.bytes = search rules in
    let is : IsPublicKey c.in-Ok.bytes = search rules in
    let same : c.in-Some.key ≡ c.in-Ok.bytes = search rules in
    ap (λ (key : Key). Some key) c.new.ensures
    ∙ rw (digits, same) (sym (ed25519_there c.in-Ok.bytes is))

pub returns-in-None : goal.returns-in-None
returns-in-None c =
    let digits : decode_sized c.args.public.now 32 ≡ Ok c.in-Ok.bytes = search rules in
    let none : ¬ IsPublicKey c.in-Ok.bytes = search rules in
    rw digits (ed25519_missing c.in-Ok.bytes none)
