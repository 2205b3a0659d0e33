-- The answers of the functions on inspections.
use Rattle.std.specs.BTreeMap.{BTreeMap, get_by}
use Rattle.std.specs.Borrow.{Bor}
use Rattle.std.specs.Cmp.Lexicographic.{slice_cmp}
use Rattle.std.specs.List.{find}
use Rattle.std.specs.Ordering.{nat_cmp}
use Rattle.std.specs.Prelude.{◌≡◌, ℕ, List, Option, None, option_map, Some, Result, Ok, Err, ⊤}
use Rattle.std.specs.Str.{bytes_eq}
use Rattle.it_docs.specs.Link.{LinkOf}
use Rattle.it_docs.specs.declared.link.Link.{Link}
use Rattle.it_docs.specs.declared.rule.Rule.{Rule}
use Rattle.it_docs.specs.declared.rule.Side.{Side}
use Rattle.it_rules.specs.Item.{Links}
use Rattle.it_chain.specs.declared.refusal.RuleItem.TheVariants.{Inspection as of_inspection}
use Rattle.it_report.specs.declared.refusal.Fault.TheVariants.{RecordMissing, BadRecord}
use Rattle.it_report.specs.declared.refusal.Refusal.{Refusal}
use Rattle.it_verify.specs.Inspections.{recorded_in}
use Rattle.it_verify.specs.Refusals.{whole, ItemRulesFail}
use Rattle.it_verify.specs.declared.failure.Failure.{Failure}
use Rattle.it_verify.specs.declared.failure.Failure.TheVariants.{Refused, OutOfMemory}

-- under each name, the bytes of the first record that has it
abbrev pub AreFirsts : List (List ℕ × List ℕ) → BTreeMap (Bor (List ℕ)) (Bor (List ℕ)) → Type 0
AreFirsts records firsts =
    (name : List ℕ)
    → option_map (λ bytes. bytes.now) (get_by (λ k. slice_cmp nat_cmp name k.now) firsts)
    ≡ option_map (λ given. given.1) (find (λ given. bytes_eq given.0 name) records)

-- the bytes are this link, which has the name
abbrev pub IsLinkNamed : List ℕ → List ℕ → Link → Type 0
IsLinkNamed name bytes link = LinkOf bytes link × (link.name ≡ name)

-- the link of this name in a record, if there is one, or why there is none
abbrev pub IsRecord : List ℕ → Option (List ℕ) → Result Link Failure → Type 0
IsRecord name None (Ok link) = ⊥
IsRecord name None (Err (Refused refusal)) = refusal ≡ whole (RecordMissing name)
IsRecord name None (Err OutOfMemory) = ⊤
IsRecord name (Some bytes) (Ok link) = IsLinkNamed name bytes link
IsRecord name (Some bytes) (Err (Refused refusal)) =
    ((link : Link) → ¬ IsLinkNamed name bytes link) × (refusal ≡ whole (BadRecord name))
IsRecord name (Some bytes) (Err OutOfMemory) = ⊤

-- a rule on a side of what an inspection recorded fails; the refusal has the index and path of the
-- first
abbrev pub SideFails : Links → List ℕ → Side → List Rule → Link → Refusal → Type 0
SideFails links name side rules link =
    ItemRulesFail links (of_inspection name) side rules (recorded_in link)
