-- Where findings are: the document, and the place in it as a JSON pointer (RFC 6901).
use Rattle.std.specs.Prelude.{ℕ, List, [], ◌∷◌, ◌++◌, ◌==◌, codes, decimal, if◌then◌else◌}
use Rattle.std.specs.List.{flat_map}
use Rattle.it_docs.specs.declared.rule.Side.{Side}
use Rattle.it_docs.specs.declared.rule.Side.TheVariants.{Materials, Products}
use Rattle.it_findings.specs.KeyPlaces.{id_of, list_of}
use Rattle.it_findings.specs.declared.finding.Finding.{Finding}
use Rattle.it_findings.specs.declared.finding.Finding.TheVariants as findings
use Rattle.it_findings.specs.declared.finding.RuleList.{RuleList}
use Rattle.it_findings.specs.declared.finding.RuleList.TheVariants.{Deliver, OfStep, OfInspection}
use Rattle.it_findings.specs.declared.member_finding.MemberFinding.{MemberFinding}
use Rattle.it_findings.specs.declared.member_finding.MemberFinding.TheVariants as members
use Rattle.it_findings.specs.declared.null_key.KeyList.{KeyList}
use Rattle.it_findings.specs.declared.null_key.KeyList.TheVariants.{OfBuilder, OfLayout, Owners}
use Rattle.it_findings.specs.declared.place.KeyPlace.{KeyPlace}
use Rattle.it_findings.specs.declared.place.Place.{Place}
use Rattle.it_findings.specs.declared.place.Place.TheVariants as places
use Rattle.it_repeats.specs.declared.repeated_member.RepeatedMember.{RepeatedMember}
use Rattle.it_repeats.specs.declared.repeated_member.Segment.{Segment}
use Rattle.it_repeats.specs.declared.repeated_member.Segment.TheVariants as segments
use Rattle.it_repeats.specs.declared.root.Root.{Root}
use Rattle.it_repeats.specs.declared.root.Root.TheVariants as roots
use Rattle.it_report.specs.Name.{name_form}
use Rattle.it_part_notes.specs.SumLine.{numbered_form}
use Rattle.it_check.specs.declared.pointer_form.PointerForm.{PointerForm}
use Rattle.it_check.specs.declared.pointer_form.PointerForm.TheVariants.{Plain, Shown}

-- the document that has a list of rules, and a list of key objects
abbrev pub document_of_rules : RuleList → List ℕ
document_of_rules Deliver = codes "policy"
document_of_rules (OfStep place name side) = codes "layout"
document_of_rules (OfInspection place name side) = codes "layout"

abbrev pub document_of_keys : KeyList → List ℕ
document_of_keys Owners = codes "policy"
document_of_keys (OfBuilder expectation builder) = codes "policy"
document_of_keys OfLayout = codes "layout"

-- the document that has a place
abbrev pub document_of_place : Place → List ℕ
document_of_place places.Policy = codes "policy"
document_of_place (places.Expectation n) = codes "policy"
document_of_place (places.Builder expectation builder) = codes "policy"
document_of_place places.Layout = codes "layout"
document_of_place (places.Step n) = codes "layout"
document_of_place (places.Inspection n) = codes "layout"
document_of_place (places.Key key) = document_of_keys (list_of key)
document_of_place (places.KeyValue key) = document_of_keys (list_of key)

abbrev pub document_of_root : Root → List ℕ
document_of_root roots.Policy = codes "policy"
document_of_root roots.Layout = codes "layout"

abbrev pub document_of_member : MemberFinding → List ℕ
document_of_member (members.Repeated root member) = document_of_root root
document_of_member (members.Unread place name) = document_of_place place
document_of_member (members.PrivateKey key) = document_of_keys (list_of key)

-- the document that a finding is in
abbrev pub document_of : Finding → List ℕ
document_of (findings.NoRules list) = document_of_rules list
document_of (findings.OpenRules list) = document_of_rules list
document_of (findings.UnknownItem list place name) = document_of_rules list
document_of (findings.Parameter list place) = document_of_rules list
document_of (findings.HighThreshold step threshold ids) = codes "layout"
document_of (findings.UnknownKey step place id) = codes "layout"
document_of (findings.RepeatedKey step place id) = codes "layout"
document_of (findings.NoBuilders place) = codes "policy"
document_of (findings.NoLevel place) = codes "policy"
document_of (findings.UnreachableLevel place level) = codes "policy"
document_of (findings.UnequalNumber place name) = codes "policy"
document_of (findings.UnusedExpectation place) = codes "policy"
document_of (findings.NoThreshold place) = codes "layout"
document_of (findings.NullKey key) = document_of_keys key.list
document_of (findings.IdentityKey key) = document_of_keys (list_of key)
document_of (findings.IncompleteIdentity key) = document_of_keys (list_of key)
document_of (findings.SharedKey shared) = document_of_keys (list_of shared.place)
document_of (findings.Member finding) = document_of_member finding

-- a byte of a name in a JSON pointer (RFC 6901 section 3)
abbrev pub pointer_byte : ℕ → List ℕ
pointer_byte byte =
    if byte == 0x7e then codes "~0" else (if byte == 0x2f then codes "~1" else byte ∷ [])

-- a name in a JSON pointer: plain, or shown as in reports
abbrev pub token_form : PointerForm → List ℕ → List ℕ
token_form Plain name = flat_map pointer_byte name
token_form Shown name = name_form (flat_map pointer_byte name)

abbrev pub side_member : Side → List ℕ
side_member Materials = codes "/expected_materials"
side_member Products = codes "/expected_products"

-- the place of a list of rules, and of a rule in it
unfoldable pub list_pointer : RuleList → List ℕ
list_pointer Deliver = codes "/deliver"
list_pointer (OfStep place name side) = codes "/steps/" ++ decimal place ++ side_member side
list_pointer (OfInspection place name side) =
    codes "/inspect/" ++ decimal place ++ side_member side

unfoldable pub rule_pointer : RuleList → ℕ → List ℕ
rule_pointer list place = list_pointer list ++ codes "/" ++ decimal place

-- the place of a member of a step, of a key id of a step, and of a member of an expectation
abbrev pub step_pointer : ℕ → List ℕ → List ℕ
step_pointer place member = numbered_form (codes "/steps/") place member

unfoldable pub step_key_pointer : ℕ → ℕ → List ℕ
step_key_pointer step place =
    numbered_form (codes "/steps/") step (codes "/pubkeys/") ++ decimal place

abbrev pub expectation_pointer : ℕ → List ℕ → List ℕ
expectation_pointer place member = numbered_form (codes "/expectations/") place member

-- the place of a parameter of an expectation
unfoldable pub parameter_pointer : PointerForm → ℕ → List ℕ → List ℕ
parameter_pointer form place name =
    expectation_pointer place (codes "/parameters/") ++ token_form form name

-- the place of a list of key objects
unfoldable pub keys_pointer : KeyList → List ℕ
keys_pointer Owners = codes "/owners"
keys_pointer (OfBuilder expectation builder) =
    numbered_form (codes "/expectations/") expectation (codes "/builders/")
    ++ numbered_form (codes "") builder (codes "/keys")
keys_pointer OfLayout = codes "/keys"

-- the place of the key object under an id of such a list
unfoldable pub key_pointer : PointerForm → KeyList → List ℕ → List ℕ
key_pointer form list id = keys_pointer list ++ codes "/" ++ token_form form id

-- the place of a builder, and of the keyval of a key object
unfoldable pub builder_pointer : ℕ → ℕ → List ℕ
builder_pointer expectation builder =
    numbered_form (codes "/expectations/") expectation (codes "/builders/") ++ decimal builder

unfoldable pub keyval_pointer : PointerForm → KeyPlace → List ℕ
keyval_pointer form key = key_pointer form (list_of key) (id_of key) ++ codes "/keyval"

-- the place of an object
abbrev pub object_pointer : PointerForm → Place → List ℕ
object_pointer form places.Policy = []
object_pointer form (places.Expectation n) = expectation_pointer n (codes "")
object_pointer form (places.Builder expectation builder) = builder_pointer expectation builder
object_pointer form places.Layout = []
object_pointer form (places.Step n) = step_pointer n (codes "")
object_pointer form (places.Inspection n) = numbered_form (codes "/inspect/") n (codes "")
object_pointer form (places.Key key) = key_pointer form (list_of key) (id_of key)
object_pointer form (places.KeyValue key) = keyval_pointer form key

-- a step of the way to a value
unfoldable pub segment_form : PointerForm → Segment → List ℕ
segment_form form (segments.Member name) = codes "/" ++ token_form form name
segment_form form (segments.Item n) = codes "/" ++ decimal n

-- the place of a member that comes again
unfoldable pub repeated_pointer : PointerForm → RepeatedMember → List ℕ
repeated_pointer form member =
    flat_map (segment_form form) member.place ++ codes "/" ++ token_form form member.name

-- the place of a finding on a member
unfoldable pub member_pointer : PointerForm → MemberFinding → List ℕ
member_pointer form (members.Repeated root member) = repeated_pointer form member
member_pointer form (members.Unread place name) =
    object_pointer form place ++ codes "/" ++ token_form form name
member_pointer form (members.PrivateKey key) = keyval_pointer form key ++ codes "/private"

-- the place of a finding
abbrev pub pointer_of : PointerForm → Finding → List ℕ
pointer_of form (findings.NoRules list) = list_pointer list
pointer_of form (findings.OpenRules list) = list_pointer list
pointer_of form (findings.UnknownItem list place name) = rule_pointer list place
pointer_of form (findings.Parameter list place) = rule_pointer list place
pointer_of form (findings.HighThreshold step threshold ids) =
    step_pointer step.place (codes "/threshold")
pointer_of form (findings.UnknownKey step place id) = step_key_pointer step.place place
pointer_of form (findings.RepeatedKey step place id) = step_key_pointer step.place place
pointer_of form (findings.NoBuilders place) = expectation_pointer place (codes "/builders")
pointer_of form (findings.NoLevel place) = expectation_pointer place (codes "/level")
pointer_of form (findings.UnreachableLevel place level) =
    expectation_pointer place (codes "/level")
pointer_of form (findings.UnequalNumber place name) = parameter_pointer form place name
pointer_of form (findings.UnusedExpectation place) = expectation_pointer place (codes "")
pointer_of form (findings.NoThreshold place) = step_pointer place (codes "/threshold")
pointer_of form (findings.NullKey key) = key_pointer form key.list key.id
pointer_of form (findings.IdentityKey key) = key_pointer form (list_of key) (id_of key)
pointer_of form (findings.IncompleteIdentity key) = key_pointer form (list_of key) (id_of key)
pointer_of form (findings.SharedKey shared) =
    key_pointer form (list_of shared.place) (id_of shared.place)
pointer_of form (findings.Member finding) = member_pointer form finding
