-- Artifact rules (in-toto 1.0, section 4.3.3). There is no queue here: each path is judged alone
-- over the whole list of rules, and a rule sees earlier ones only through the paths that they
-- claim. Paths are in the order of their bytes.
use Rattle.std.specs.Prelude.{◌≡◌, ◌≢◌, ◌↔◌, ℕ, ◌<◌, List, ◌++◌, Some, Contains, AllPairs, ⊤}
use Rattle.std.specs.Prelude.{IsTrue}
use Rattle.std.specs.List.{slice_get}
use Rattle.std.specs.Ordering.{nat_cmp}
use Rattle.std.specs.Cmp.Lexicographic.{slice_cmp}
use Rattle.std.specs.declared.cmp.Ordering.TheVariants.{Less}
use Rattle.std.specs.FinMap.{contains_key, get}
use Rattle.it_glob.specs.Pattern.{Matches, items_of}
use Rattle.it_digest.specs.Artifacts.{ArtifactMap}
use Rattle.it_digest.specs.Compare.{Agree, Differ}
use Rattle.it_digest.specs.declared.compare.DigestSet.{DigestSet}
use Rattle.it_docs.specs.declared.rule.Rule.{Rule}
use Rattle.it_docs.specs.declared.rule.Rule.TheVariants.{Match, Create, Delete, Modify, Allow}
use Rattle.it_docs.specs.declared.rule.Rule.TheVariants.{Disallow, Require}
use Rattle.it_docs.specs.declared.rule.Side.{Side}
use Rattle.it_rules.specs.FolderPrefix.{folder_prefix}
use Rattle.it_rules.specs.Item.{Recorded, Links, artifacts_on}

-- a pattern matches a path
abbrev pub IsMatch : List ℕ → List ℕ → Type 0
IsMatch pattern path = Matches (items_of pattern) path

-- a path is in a map
abbrev pub Stands : ArtifactMap → List ℕ → Type 0
Stands artifacts path = IsTrue (contains_key artifacts path)

-- MATCH claims a path of these artifacts: the pattern matches it without the source prefix, and the
-- named item has it under the target prefix instead, on the given side, with digests that agree
pub record MatchClaims (pattern source : List ℕ) (linked_side : Side) (target from : List ℕ)
    (artifacts : ArtifactMap) (links : Links) (path : List ℕ) : Type 0 where
  pub rest : List ℕ
  pub linked : Recorded
  pub here : DigestSet
  pub there : DigestSet
  pub under_source : path ≡ folder_prefix source ++ rest
  pub is_match : IsMatch pattern rest
  pub is_named : Contains links (from, linked)
  pub stands_here : get artifacts path ≡ Some here
  pub stands_there :
      get (artifacts_on linked_side linked) (folder_prefix target ++ rest) ≡ Some there
  pub digests_agree : Agree here there

-- CREATE claims a product that is not a material
pub record CreateClaims (pattern : List ℕ) (item : Recorded) (path : List ℕ) : Type 0 where
  pub is_match : IsMatch pattern path
  pub is_product : Stands item.products path
  pub is_no_material : ¬ Stands item.materials path

-- DELETE claims a material that is not a product
pub record DeleteClaims (pattern : List ℕ) (item : Recorded) (path : List ℕ) : Type 0 where
  pub is_match : IsMatch pattern path
  pub is_material : Stands item.materials path
  pub is_no_product : ¬ Stands item.products path

-- MODIFY claims a material that is also a product, with digests that differ (this profile's choice:
-- digests with no algorithm in common are not enough)
pub record ModifyClaims (pattern : List ℕ) (item : Recorded) (path : List ℕ) : Type 0 where
  pub before : DigestSet
  pub after : DigestSet
  pub is_match : IsMatch pattern path
  pub is_material : get item.materials path ≡ Some before
  pub is_product : get item.products path ≡ Some after
  pub digests_differ : Differ before after

-- a rule claims a path of the side that it is judged on. DISALLOW and REQUIRE claim nothing
abbrev pub Claims : Rule → Side → Recorded → Links → List ℕ → Type 0
Claims (Match pattern source linked_side target from) side item links path =
    MatchClaims pattern source linked_side target from (artifacts_on side item) links path
Claims (Create pattern) side item links path = CreateClaims pattern item path
Claims (Delete pattern) side item links path = DeleteClaims pattern item path
Claims (Modify pattern) side item links path = ModifyClaims pattern item path
Claims (Allow pattern) side item links path = IsMatch pattern path
Claims (Disallow pattern) side item links path = ⊥
Claims (Require text) side item links path = ⊥

-- a path of the side that no rule with an index below i claims
pub record IsFree (rules : List Rule) (side : Side) (item : Recorded) (links : Links) (i : ℕ)
    (path : List ℕ) : Type 0 where
  pub stands : Stands (artifacts_on side item) path
  pub unclaimed : (j : ℕ) (rule : Rule) → j < i → slice_get rules j ≡ Some rule
      → ¬ Claims rule side item links path

-- paths in the order of their bytes, each once
abbrev pub AreSorted : List (List ℕ) → Type 0
AreSorted paths = AllPairs (λ a b. slice_cmp nat_cmp a b ≡ Less) paths

-- these are the free paths before the rule with the index i, in order
pub record AreFree (rules : List Rule) (side : Side) (item : Recorded) (links : Links) (i : ℕ)
    (paths : List (List ℕ)) : Type 0 where
  pub in_order : AreSorted paths
  pub exact : (path : List ℕ) → Contains paths path ↔ IsFree rules side item links i path

-- a rule holds over the paths that are free before it: DISALLOW where it matches none of them,
-- REQUIRE where its text, taken literally (this profile's choice), is one of them
abbrev pub HoldsOver : Rule → (List ℕ → Type 0) → Type 0
HoldsOver (Disallow pattern) Free = (path : List ℕ) → Free path → ¬ IsMatch pattern path
HoldsOver (Require text) Free = Free text
HoldsOver rule Free = ⊤

-- the rule with the index i holds
abbrev pub Holds : List Rule → Side → Recorded → Links → ℕ → Type 0
Holds rules side item links i =
    (rule : Rule) → slice_get rules i ≡ Some rule → HoldsOver rule (IsFree rules side item links i)

-- every rule holds
abbrev pub RulesHold : List Rule → Side → Recorded → Links → Type 0
RulesHold rules side item links = (i : ℕ) → Holds rules side item links i

-- the least free path that a pattern matches
pub record IsLeastMatch (pattern : List ℕ) (Free : List ℕ → Type 0) (path : List ℕ) : Type 0 where
  pub is_free : Free path
  pub is_match : IsMatch pattern path
  pub is_least : (other : List ℕ) → Free other → IsMatch pattern other
      → slice_cmp nat_cmp other path ≢ Less

-- the path with which a rule fails: for DISALLOW the least free path that it matches, for REQUIRE
-- its text
abbrev pub FailsWith : Rule → (List ℕ → Type 0) → List ℕ → Type 0
FailsWith (Disallow pattern) Free path = IsLeastMatch pattern Free path
FailsWith (Require text) Free path = path ≡ text
FailsWith rule Free path = ⊥

-- the first rule that does not hold, by its index, and the path with which it fails
pub record IsFirstFault (rules : List Rule) (side : Side) (item : Recorded) (links : Links)
    (index : ℕ) (path : List ℕ) : Type 0 where
  pub fails : ¬ Holds rules side item links index
  pub before_hold : (i : ℕ) → i < index → Holds rules side item links i
  pub path_is : (rule : Rule) → slice_get rules index ≡ Some rule
      → FailsWith rule (IsFree rules side item links index) path

-- no name occurs twice
abbrev pub NamesDiffer : Links → Type 0
NamesDiffer links = AllPairs (λ a b. a.0 ≢ b.0) links
