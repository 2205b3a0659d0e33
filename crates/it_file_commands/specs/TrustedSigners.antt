-- Who signed an envelope or a bundle, by public keys and a trusted root.
use Rattle.std.specs.Prelude.{ℕ, List, [], ◌∷◌, true, Some}
use Rattle.it_base.specs.Table.{Named}
use Rattle.it_command_checks.specs.CommandChecks.{command_checks}
use Rattle.it_dsse.specs.Panel.{panel_of}
use Rattle.it_dsse.specs.declared.key_object.KeyObject.{KeyObject}
use Rattle.it_outcome.specs.declared.outcome.Status.{Status}
use Rattle.it_signers.specs.SignersOutput.{IsSignersOutput}
use Rattle.it_trust_root.specs.declared.root.TrustedRoot.{TrustedRoot}
use Rattle.it_vouched.specs.Line.{AreVouched}
use Rattle.it_vouched.specs.declared.vouched.Vouched.{Vouched}
use Rattle.it_words.specs.declared.words.signed_words.TrustedPaths.{TrustedPaths}
use Rattle.it_disk.specs.Reading.{Holdings, HoldsKeys, HoldsRoot}

-- signed --trusted-root: which public keys and which identities signed the envelope, which the file
-- is or holds as a bundle; an identity signed it by what the file vouches for, as if it were the
-- only line of a provenance
pub record ShowsTrustedSigners (disk : Holdings) (paths : TrustedPaths) (file text : List ℕ)
    (status : Status) : Type 0 where
  pub objects : Named KeyObject
  pub holds_keys : HoldsKeys disk paths.keys objects
  pub root : TrustedRoot
  pub holds_root : HoldsRoot disk paths.root root
  pub vouched : List Vouched
  pub are_vouched : AreVouched root (file ∷ []) vouched
  pub is_output : IsSignersOutput (panel_of (command_checks [] true (Some vouched))) objects file
      text status
