-- The names of findings (this project's words).
use Rattle.std.specs.Prelude.{ℕ, List, codes}
use Rattle.it_findings.specs.declared.finding.Finding.{Finding}
use Rattle.it_findings.specs.declared.finding.Finding.TheVariants as findings
use Rattle.it_findings.specs.declared.member_finding.MemberFinding.{MemberFinding}
use Rattle.it_findings.specs.declared.member_finding.MemberFinding.TheVariants as members
use Rattle.it_findings.specs.declared.null_key.KeyList.{KeyList}
use Rattle.it_findings.specs.declared.null_key.KeyList.TheVariants.{OfBuilder, OfLayout, Owners}

-- a null among the owners has a name of its own
abbrev pub null_name : KeyList → List ℕ
null_name Owners = codes "null-owner"
null_name (OfBuilder expectation builder) = codes "null-key"
null_name OfLayout = codes "null-key"

abbrev pub member_name : MemberFinding → List ℕ
member_name (members.Repeated root member) = codes "repeated-member"
member_name (members.Unread place name) = codes "unread-member"
member_name (members.PrivateKey key) = codes "private-key"

abbrev pub name_of : Finding → List ℕ
name_of (findings.NoRules list) = codes "no-rules"
name_of (findings.OpenRules list) = codes "open-rules"
name_of (findings.UnknownItem list place name) = codes "unknown-item"
name_of (findings.Parameter list place) = codes "parameter"
name_of (findings.HighThreshold step threshold ids) = codes "high-threshold"
name_of (findings.UnknownKey step place id) = codes "unknown-key"
name_of (findings.RepeatedKey step place id) = codes "repeated-key"
name_of (findings.NoBuilders place) = codes "no-builders"
name_of (findings.NoLevel place) = codes "no-level"
name_of (findings.UnreachableLevel place level) = codes "unreachable-level"
name_of (findings.UnequalNumber place name) = codes "unequal-number"
name_of (findings.UnusedExpectation place) = codes "unused-expectation"
name_of (findings.NoThreshold place) = codes "no-threshold"
name_of (findings.NullKey key) = null_name key.list
name_of (findings.IdentityKey key) = codes "identity-key"
name_of (findings.IncompleteIdentity key) = codes "incomplete-identity"
name_of (findings.SharedKey shared) = codes "shared-key"
name_of (findings.Member finding) = member_name finding
