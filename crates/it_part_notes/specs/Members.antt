-- The members that are looked at in each part of a policy or a layout, in envelopes and in links,
-- and what they must be: those of policies are this profile's choice, those of layouts and links
-- are in in-toto 1.0 sections 4.3 and 4.4, those of envelopes in DSSE v1.0.
use Rattle.std.specs.Prelude.{ℕ, List, [], ◌∷◌, Bool, true, false, IsTrue, is_some, codes}
use Rattle.std.specs.FinMap.{empty}
use Rattle.serde_json.specs.Data.{Data}
use Rattle.serde_json.specs.Find.{as_array}
use Rattle.it_base.specs.Base64Text.{IsBase64}
use Rattle.it_base.specs.Sequence.{IsList}
use Rattle.it_base.specs.Table.{IsTable}
use Rattle.it_base.specs.Text.{IsText}
use Rattle.it_base.specs.TreeOf.{IsMembers}
use Rattle.it_digest.specs.Digest.{IsDigestSet}
use Rattle.it_dsse.specs.Envelope.{IsSignature}
use Rattle.it_dsse.specs.KeyObject.{IsKeyObject}
use Rattle.it_docs.specs.Level.{IsLevel}
use Rattle.it_docs.specs.Moment.{IsMoment}
use Rattle.it_docs.specs.Policy.{IsBuilderOf}
use Rattle.it_docs.specs.Threshold.{IsThreshold}
use Rattle.it_docs.specs.declared.layout_fault.LayoutPart.{LayoutPart}
use Rattle.it_docs.specs.declared.layout_fault.LayoutPart.TheVariants as layout
use Rattle.it_docs.specs.declared.policy_fault.PolicyPart.{PolicyPart}
use Rattle.it_docs.specs.declared.policy_fault.PolicyPart.TheVariants as policy
use Rattle.it_part_notes.specs.declared.member.Kind.{Kind}
use Rattle.it_part_notes.specs.declared.member.Kind.TheVariants as kinds
use Rattle.it_part_notes.specs.declared.member.Member.{Member}
use Rattle.it_part_notes.specs.declared.member.Member.TheVariants.{Needed, Optional}

-- a part of a document is some value
abbrev pub Reads : {X : Type 0} → (Data → X → Type 0) → Data → Type 0
Reads {X} P d = (x : X) × P d x

-- the value of a member is of a kind; for rules only the list, since each item has its own note
abbrev pub Fits : Kind → Data → Type 0
Fits kinds.Text d = Reads IsText d
Fits kinds.Word d = IsText d (codes "layout")
Fits kinds.Moment d = Reads IsMoment d
Fits kinds.Threshold d = Reads IsThreshold d
Fits kinds.Level d = Reads IsLevel d
Fits kinds.Texts d = Reads (IsList IsText) d
Fits kinds.Keys d = Reads (IsTable IsKeyObject) d
Fits kinds.SomeKey d = ¬ IsTable IsKeyObject d empty
Fits kinds.Builders d = Reads (IsList IsBuilderOf) d
Fits kinds.Object d = Reads IsMembers d
Fits kinds.Items d = IsTrue (is_some (as_array d))
Fits kinds.Rules d = IsTrue (is_some (as_array d))
Fits kinds.Base64 d = Reads IsBase64 d
Fits kinds.Signatures d = Reads (IsList IsSignature) d
Fits kinds.LinkWord d = IsText d (codes "link")
Fits kinds.Artifacts d = Reads (IsTable IsDigestSet) d

-- a member that is looked at
pub record Looked : Type 0 where
  pub name : List ℕ
  pub kind : Kind
  pub is_needed : Bool

abbrev pub needed : List ℕ → Kind → Looked
needed name kind = record { name = name; kind = kind; is_needed = true }

-- one that may be missing
abbrev pub optional : List ℕ → Kind → Looked
optional name kind = record { name = name; kind = kind; is_needed = false }

abbrev pub shown : Member → Looked
shown (Needed name kind) = needed name.now kind
shown (Optional name kind) = optional name.now kind

-- the members of a part of a policy, in their order
abbrev pub policy_members : PolicyPart → List Looked
policy_members policy.Json = []
policy_members policy.Owners =
    needed (codes "owners") kinds.Keys ∷ needed (codes "owners") kinds.SomeKey ∷ []
policy_members policy.Deliver = optional (codes "deliver") kinds.Rules ∷ []
policy_members policy.Expectations = optional (codes "expectations") kinds.Items ∷ []
policy_members (policy.Expectation n) =
    needed (codes "files") kinds.Text ∷ optional (codes "builders") kinds.Builders
    ∷ needed (codes "buildType") kinds.Text ∷ optional (codes "parameters") kinds.Object
    ∷ optional (codes "ignore") kinds.Texts ∷ optional (codes "level") kinds.Level ∷ []

-- the rules of a step or an inspection
abbrev pub rule_members : List Looked
rule_members =
    optional (codes "expected_materials") kinds.Rules
    ∷ optional (codes "expected_products") kinds.Rules ∷ []

-- the members of a part of a layout, in their order; for a name that occurs twice there are none
abbrev pub layout_members : LayoutPart → List Looked
layout_members layout.Json = []
layout_members layout.WrongType = needed (codes "_type") kinds.Word ∷ []
layout_members layout.Expires = needed (codes "expires") kinds.Moment ∷ []
layout_members layout.Keys = optional (codes "keys") kinds.Keys ∷ []
layout_members layout.Steps = optional (codes "steps") kinds.Items ∷ []
layout_members (layout.Step n) =
    needed (codes "name") kinds.Text ∷ optional (codes "threshold") kinds.Threshold
    ∷ optional (codes "pubkeys") kinds.Texts ∷ rule_members
layout_members layout.Inspects = optional (codes "inspect") kinds.Items ∷ []
layout_members (layout.Inspect n) = needed (codes "name") kinds.Text ∷ rule_members
layout_members (layout.DuplicateName name) = []

-- the members of an envelope, in their order
abbrev pub envelope_members : List Looked
envelope_members =
    needed (codes "payload") kinds.Base64 ∷ needed (codes "payloadType") kinds.Text
    ∷ needed (codes "signatures") kinds.Signatures ∷ []

-- the members of a link, in their order
abbrev pub link_members : List Looked
link_members =
    needed (codes "_type") kinds.LinkWord ∷ needed (codes "name") kinds.Text
    ∷ optional (codes "materials") kinds.Artifacts ∷ optional (codes "products") kinds.Artifacts
    ∷ []
