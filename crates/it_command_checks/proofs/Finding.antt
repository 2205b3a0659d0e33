-- What the checks of a command know, and where.
use Rattle.std.proofs.Common.{◌≡◌, ◌∙◌, ℕ, List, [], Bool, Option, Some, None, IsSome, IsNone}
use Rattle.std.proofs.Common.{ap, length, option_map, slice_get, sym}
use Rattle.it_dsse.specs.Panel.{KeyNumber, panel_of}
use Rattle.it_dsse.specs.declared.key_object.KeyObject.{KeyObject}
use Rattle.it_dsse.specs.declared.ring_entry.RingEntry.{RingEntry}
use Rattle.it_identity.specs.Name.{number_of}
use Rattle.it_public_keys.specs.OwnChecks.{own_checks}
use Rattle.it_vouched.specs.Check.{vouched_check}
use Rattle.it_vouched.specs.ObjectIdentity.{identity_in}
use Rattle.it_vouched.specs.declared.vouched.Vouched.{Vouched}
use Rattle.it_command_checks.specs.CommandChecks.{command_checks, vouched_checks}
use Rattle.it_command_checks.proofs.Appended.{behind, known_first, known_last, known_later}

module _ (rings : List (List RingEntry)) (asked : Bool) where
  module _ (id : List ℕ) (object : KeyObject) where
    pub own_known : (vouched : Option (List Vouched)) (key : KeyNumber)
        → Some key ≡ (panel_of (own_checks rings asked)).key_of id object
        → Some key ≡ (panel_of (command_checks rings asked vouched)).key_of id object
    own_known vouched key e =
        sym (known_first id object (own_checks rings asked) (vouched_checks vouched) 0 key (sym e))

    pub none_known : (vouched : Option (List Vouched)) → IsNone vouched
        → None ≡ (panel_of (own_checks rings asked)).key_of id object
        → None ≡ (panel_of (command_checks rings asked vouched)).key_of id object
    none_known None is e = sym (known_later id object (own_checks rings asked) [] 0 (sym e))
    none_known (Some lines) is e = cc

    pub identity_known : (vouched : Option (List Vouched)) (found : Option ℕ) → IsSome vouched
        → None ≡ (panel_of (own_checks rings asked)).key_of id object
        → found ≡ option_map number_of (identity_in object)
        → option_map (λ n. (length (own_checks rings asked), n)) found
        ≡ (panel_of (command_checks rings asked vouched)).key_of id object
    identity_known None found some e is = cc
    identity_known (Some lines) found some e is =
        ap (option_map (λ n. (length (own_checks rings asked), n))) is
        ∙ sym (known_last id object (own_checks rings asked) (vouched_check lines) (sym e))

  pub lines_at : (vouched : Option (List Vouched)) (lines : List Vouched) → vouched ≡ Some lines
      → slice_get (command_checks rings asked vouched) (length (own_checks rings asked))
      ≡ Some (vouched_check lines)
  lines_at vouched lines is = rw is (behind (own_checks rings asked) (vouched_check lines) [])
