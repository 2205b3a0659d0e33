-- Why a MATCH rule does not take a path (in-toto 1.0 section 4.3.3).
use Rattle.std.specs.Prelude.{◌≡◌, ℕ, ◌<◌, List, ◌++◌, Option, None, Some, Contains, IfSome}
use Rattle.std.specs.FinMap.{get}
use Rattle.std.specs.List.{slice_get}
use Rattle.it_digest.specs.Compare.{Apart, Differ}
use Rattle.it_docs.specs.declared.rule.Rule.{Rule}
use Rattle.it_docs.specs.declared.rule.Rule.TheVariants.{Match}
use Rattle.it_rules.specs.FolderPrefix.{folder_prefix}
use Rattle.it_rules.specs.Item.{Recorded, artifacts_on}
use Rattle.it_rules.specs.Rules.{IsMatch}
use Rattle.it_rule_notes.specs.Met.{Judging}
use Rattle.it_rule_notes.specs.Near.{IsNear}
use Rattle.it_rule_notes.specs.declared.missed.Missed.{Missed}
use Rattle.it_rule_notes.specs.declared.missed.Miss.{Miss}
use Rattle.it_rule_notes.specs.declared.missed.Miss.TheVariants as misses
use Rattle.it_rule_notes.specs.declared.target.Target.{Target}
use Rattle.it_rule_notes.specs.declared.missed.TwoSets.{TwoSets}

-- the rule is a MATCH whose pattern matches the path without the source prefix, and it looks for
-- the path here: on this side of this item, under the target prefix instead
pub record LooksFor (rule : Rule) (path : List ℕ) (target : Target) : Type 0 where
  pub pattern : List ℕ
  pub source : List ℕ
  pub prefix : List ℕ
  pub rest : List ℕ
  pub is_rule : rule ≡ Match pattern source target.side prefix target.from
  pub under_source : path ≡ folder_prefix source ++ rest
  pub is_match : IsMatch pattern rest
  pub path_is : target.path ≡ folder_prefix prefix ++ rest

module _ (judging : Judging) (target : Target) where
  -- the item recorded this where the rule looks, and this stands at the path that is judged
  pub record AreSetsAt (path : List ℕ) (sets : TwoSets) : Type 0 where
    pub linked : Recorded
    pub is_named : Contains judging.links (target.from, linked)
    pub stands_there : get (artifacts_on target.side linked) target.path ≡ Some sets.there
    pub stands_here : get (artifacts_on judging.side judging.item) path ≡ Some sets.here

  -- the item recorded nothing where the rule looks, but this at a path that is much like it
  pub record IsUnrecorded (near : Option (List ℕ)) : Type 0 where
    pub linked : Recorded
    pub is_named : Contains judging.links (target.from, linked)
    pub is_absent : get (artifacts_on target.side linked) target.path ≡ None
    pub is_near : IfSome near (IsNear (artifacts_on target.side linked) target.path)

  -- why a MATCH that looks here does not take the path: no item has the name, the path is not
  -- there, or the digests have no algorithm in common or differ
  abbrev pub Misses : List ℕ → Miss → Type 0
  Misses path misses.Unnamed = (linked : Recorded) → ¬ Contains judging.links (target.from, linked)
  Misses path (misses.Unrecorded near) = IsUnrecorded near
  Misses path (misses.Unshared sets) = AreSetsAt path sets × Apart sets.there sets.here
  Misses path (misses.Different sets) = AreSetsAt path sets × Differ sets.there sets.here

-- a MATCH before the index looks for the path, and this is why it does not take it
pub record IsMissed (judging : Judging) (index : ℕ) (path : List ℕ) (missed : Missed) : Type 0 where
  pub rule : Rule
  pub is_before : missed.index < index
  pub is_rule : slice_get judging.rules missed.index ≡ Some rule
  pub looks : LooksFor rule path missed.target
  pub misses : Misses judging missed.target path missed.miss

-- no MATCH before the index looks for the path
abbrev pub IsUnmatched : Judging → ℕ → List ℕ → Type 0
IsUnmatched judging index path =
    (place : ℕ) (rule : Rule) (target : Target) → place < index
    → slice_get judging.rules place ≡ Some rule → ¬ LooksFor rule path target
