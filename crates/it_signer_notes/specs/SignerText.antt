-- What is said of identities that signed the provenance and are keys of no builder (this project's
-- words).
use Rattle.std.specs.Prelude.{ℕ, ◌-◌, List, [], ◌++◌, codes, decimal, if◌then◌else◌}
use Rattle.std.specs.Prelude.{find, length, nat_le, take, Option, Some, None}
use Rattle.std.specs.List.{flat_map}
use Rattle.it_docs.specs.declared.policy.Policy.{Policy}
use Rattle.it_dsse.specs.declared.key_object.KeyObject.{KeyObject}
use Rattle.it_identity.specs.declared.identity.Identity.{Identity}
use Rattle.it_report.specs.Name.{name_form}
use Rattle.it_vouched.specs.declared.vouched.Vouched.{Vouched}
use Rattle.it_signer_notes.specs.BuilderKeys.{keys_of_builders}
use Rattle.it_signer_notes.specs.Nearest.{is_near}
use Rattle.it_signer_notes.specs.Signers.{unlisted}

-- that the policy lists the identity of a key
abbrev pub listed_text : KeyObject → List ℕ
listed_text key = codes "; the policy lists " ++ name_form key.identity

-- the same of a key that is near, if there is one
abbrev pub listing_text : Option KeyObject → List ℕ
listing_text None = []
listing_text (Some key) = listed_text key

-- the line of a note on an identity: it names the first of the keys that is near
unfoldable pub signer_text : List KeyObject → Identity → List ℕ
signer_text keys identity =
    codes "the provenance is signed by " ++ name_form identity.name ++ codes " of "
    ++ name_form identity.issuer ++ codes ", which is the key of no builder"
    ++ listing_text (find (is_near identity) keys) ++ codes "\n"

-- how many identities there are of which no line is written
abbrev pub further_text : ℕ → List ℕ
further_text count = decimal count ++ codes " further identities sign the provenance\n"

-- the notes on identities: a line on each; where there are more than 40, a line on each of the
-- first 39, and how many further ones there are
abbrev pub text_of_signers : List KeyObject → List Identity → List ℕ
text_of_signers keys signers =
    if nat_le (length signers) 40 then flat_map (signer_text keys) signers
    else flat_map (signer_text keys) (take 39 signers) ++ further_text (length signers - 39)

-- the notes on the identities for which lines vouch and that are keys of no builder of the policy
abbrev pub signer_notes : Policy → List Vouched → List ℕ
signer_notes policy vouched =
    text_of_signers (keys_of_builders policy) (unlisted (keys_of_builders policy) vouched)
