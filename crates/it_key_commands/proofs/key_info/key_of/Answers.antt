use Rattle.std.proofs.Common.{◌≡◌, MatchResult, subst, sym}
use Rattle.it_public_keys.specs.Keys.{IsKey}
use Rattle.it_key_commands.specs.KeyInfo.{key_info}
use Rattle.it_key_commands.specs.inside.ReadKeys.{IsInfoFault}
use Rattle.it_key_commands.proofs.key_info.key_of.Goals as goal

pub returns-in-Some : goal.returns-in-Some
returns-in-Some c =
    subst (λ info. MatchResult c.ed25519_key.result (λ key. IsKey key × (info ≡ key_info key))
    (IsInfoFault info)) (sym c.in-Some.ensures) c.ed25519_key.ensures
