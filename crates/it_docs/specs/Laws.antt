-- Each input is read in at most one way, and not at all where a part of it fails.
use Rattle.std.specs.Prelude.{◌≡◌, ℕ, ℤ, List}
use Rattle.it_docs.specs.Layout.{LayoutOf}
use Rattle.it_docs.specs.LayoutPart.{LayoutPartOf}
use Rattle.it_docs.specs.Link.{LinkOf}
use Rattle.it_docs.specs.Moment.{MomentOf}
use Rattle.it_docs.specs.Policy.{PolicyOf}
use Rattle.it_docs.specs.PolicyPart.{PolicyPartOf}
use Rattle.it_docs.specs.Rule.{RuleOf}
use Rattle.it_docs.specs.Statement.{StatementOf}
use Rattle.it_docs.specs.declared.layout.Layout.{Layout}
use Rattle.it_docs.specs.declared.layout_fault.LayoutPart.{LayoutPart}
use Rattle.it_docs.specs.declared.link.Link.{Link}
use Rattle.it_docs.specs.declared.policy.Policy.{Policy}
use Rattle.it_docs.specs.declared.policy_fault.PolicyPart.{PolicyPart}
use Rattle.it_docs.specs.declared.rule.Rule.{Rule}
use Rattle.it_docs.specs.declared.statement.Statement.{Statement}

abbrev pub OneLayout : Type 0
OneLayout = (bytes : List ℕ) (x y : Layout) → LayoutOf bytes x → LayoutOf bytes y → x ≡ y

abbrev pub OneLink : Type 0
OneLink = (bytes : List ℕ) (x y : Link) → LinkOf bytes x → LinkOf bytes y → x ≡ y

abbrev pub OneMoment : Type 0
OneMoment = (text : List ℕ) (x y : ℤ) → MomentOf text x → MomentOf text y → x ≡ y

abbrev pub OnePolicy : Type 0
OnePolicy = (bytes : List ℕ) (x y : Policy) → PolicyOf bytes x → PolicyOf bytes y → x ≡ y

abbrev pub OneRule : Type 0
OneRule = (texts : List (List ℕ)) (x y : Rule) → RuleOf texts x → RuleOf texts y → x ≡ y

abbrev pub OneStatement : Type 0
OneStatement =
    (bytes : List ℕ) (x y : Statement) → StatementOf bytes x → StatementOf bytes y → x ≡ y

abbrev pub BadPartIsNoLayout : Type 0
BadPartIsNoLayout =
    (bytes : List ℕ) (part : LayoutPart) → LayoutPartOf bytes part
    → (layout : Layout) → ¬ LayoutOf bytes layout

abbrev pub BadPartIsNoPolicy : Type 0
BadPartIsNoPolicy =
    (bytes : List ℕ) (part : PolicyPart) → PolicyPartOf bytes part
    → (policy : Policy) → ¬ PolicyOf bytes policy
