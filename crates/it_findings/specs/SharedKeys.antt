-- Keys that a policy lists for two owners, or for two builders (this profile's choice).
use Rattle.std.specs.Prelude.{◌≡◌, ◌≢◌, List, [], ◌++◌, Bool, false, ◌&&◌, Option, None, Some, find}
use Rattle.std.specs.FinMap.{entries}
use Rattle.std.specs.Str.{bytes_eq}
use Rattle.it_docs.specs.declared.policy.Policy.{Policy}
use Rattle.it_findings.specs.Joined.{Joined, JoinedEach, Said}
use Rattle.it_findings.specs.KeyUses.{ExpectationUses, OwnerUses}
use Rattle.it_findings.specs.declared.finding.Finding.{Finding}
use Rattle.it_findings.specs.declared.finding.Finding.TheVariants as findings
use Rattle.it_findings.specs.declared.key_use.KeyUse.{KeyUse}
use Rattle.it_findings.specs.declared.listed_key.ListedKey.{ListedKey}
use Rattle.it_findings.specs.declared.listed_key.ListedKey.TheVariants.{Identity, Public}

-- whether two keys are one: identities with the same identity and issuer, and public keys with the
-- same public part, whatever their ids and the other members of their objects are
abbrev pub is_same_key : ListedKey → ListedKey → Bool
is_same_key (Identity identity issuer) (Identity other other_issuer) =
    bytes_eq identity other && bytes_eq issuer other_issuer
is_same_key (Public public) (Public other) = bytes_eq public other
is_same_key key other = false

abbrev pub is_key : ListedKey → KeyUse → Bool
is_key key held = is_same_key key held.key

-- what is found in a key whose first holder is this one, if there is one: it is another owner, or a
-- builder of another id or level
abbrev pub SharedWith : KeyUse → Option KeyUse → List Finding → Type 0
SharedWith held None found = found ≡ []
SharedWith held (Some first) found =
    Said (first.holder ≢ held.holder)
    (findings.SharedKey (record {
      place = held.place;
      holder = held.holder;
      first = first.holder;
    })) found

-- what is found in a key among all
abbrev pub SharedIn : List KeyUse → KeyUse → List Finding → Type 0
SharedIn uses held found = SharedWith held (find (is_key held.key) uses) found

-- what is found in all keys of a list, in their order
abbrev pub SharedAmong : List KeyUse → List Finding → Type 0
SharedAmong uses found = JoinedEach (SharedIn uses) uses found

-- what is found in a policy: in the keys of its owners, and then in those of the builders of all
-- its expectations
pub record SharedKeys (policy : Policy) (found : List Finding) : Type 0 where
  pub owner_uses : List KeyUse
  pub builder_uses : List KeyUse
  pub of_owners : List Finding
  pub of_builders : List Finding
  pub found_are : found ≡ of_owners ++ of_builders
  pub owners_use : JoinedEach OwnerUses (entries policy.owners) owner_uses
  pub builders_use : Joined ExpectationUses policy.expectations builder_uses
  pub owners : SharedAmong owner_uses of_owners
  pub builders : SharedAmong builder_uses of_builders
