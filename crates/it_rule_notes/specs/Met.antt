-- What a judged artifact rule meets (in-toto 1.0 section 4.3.3).
use Rattle.std.specs.Prelude.{◌≡◌, ℕ, ◌<◌, List, ◌++◌, Bool, true, false, Some, All}
use Rattle.std.specs.Prelude.{Contains, codes, decimal, length}
use Rattle.std.specs.Bool.{OnFalse, OnTrue}
use Rattle.std.specs.Cmp.Lexicographic.{slice_cmp}
use Rattle.std.specs.List.{flat_map, slice_get}
use Rattle.std.specs.Ordering.{nat_cmp}
use Rattle.std.specs.declared.cmp.Ordering.TheVariants.{Less}
use Rattle.it_docs.specs.Rule.{RuleOf}
use Rattle.it_docs.specs.declared.rule.Rule.{Rule}
use Rattle.it_docs.specs.declared.rule.Rule.TheVariants.{Disallow, Require}
use Rattle.it_docs.specs.declared.rule.Side.{Side}
use Rattle.it_rules.specs.Item.{Links, Recorded, artifacts_on}
use Rattle.it_rules.specs.Rules.{AreFree, AreSorted, Claims, IsFree, IsMatch, Stands}
use Rattle.it_rule_notes.specs.Line.{told_form}
use Rattle.it_rule_notes.specs.Rule.{word_form}
use Rattle.it_rule_notes.specs.declared.met.ConsumedPath.{ConsumedPath}
use Rattle.it_rule_notes.specs.declared.met.ForbiddenPaths.{ForbiddenPaths}
use Rattle.it_rule_notes.specs.declared.met.Met.{Met}
use Rattle.it_rule_notes.specs.declared.met.Met.TheVariants.{Forbidden, Consumed, Absent}

-- rules judged on a side of an item, over what items recorded under their names
pub record Judging : Type 0 where
  pub rules : List Rule
  pub side : Side
  pub item : Recorded
  pub links : Links

module _ (judging : Judging) where
  -- a path of the side that no rule before the index claims
  abbrev pub IsLeftAt : ℕ → List ℕ → Type 0
  IsLeftAt = IsFree judging.rules judging.side judging.item judging.links

  -- these are the paths of the side that no rule before the index claims, in order
  abbrev pub AreLeftAt : ℕ → List (List ℕ) → Type 0
  AreLeftAt = AreFree judging.rules judging.side judging.item judging.links

  abbrev pub ClaimsPath : Rule → List ℕ → Type 0
  ClaimsPath rule path = Claims rule judging.side judging.item judging.links path

  -- a path that a DISALLOW at the index forbids
  pub record IsForbidden (index : ℕ) (pattern path : List ℕ) : Type 0 where
    pub is_left : IsLeftAt index path
    pub is_match : IsMatch pattern path

  -- such a path that is not one of these
  pub record IsOther (index : ℕ) (pattern : List ℕ) (paths : List (List ℕ)) : Type 0 where
    pub path : List ℕ
    pub forbidden : IsForbidden index pattern path
    pub is_other : ¬ Contains paths path

  -- a DISALLOW at the index forbids these paths, in the order of their bytes; all others that it
  -- forbids come after them, and there are others only after ten
  pub record AreForbiddenBy (index : ℕ) (pattern : List ℕ) (forbidden : ForbiddenPaths)
      : Type 0 where
    pub in_order : AreSorted forbidden.paths
    pub each : All (IsForbidden index pattern) forbidden.paths
    pub come_first : (other : IsOther index pattern forbidden.paths)
        → All (λ path. slice_cmp nat_cmp path other.path ≡ Less) forbidden.paths
    pub others : OnTrue forbidden.others
        ((length forbidden.paths ≡ 10) × IsOther index pattern forbidden.paths)
    pub no_others : OnFalse forbidden.others (¬ IsOther index pattern forbidden.paths)

  -- the rule at the index is a DISALLOW, which forbids the paths, of which there are some
  pub record AreForbidden (index : ℕ) (forbidden : ForbiddenPaths) : Type 0 where
    pub some : 0 < length forbidden.paths
    pub pattern : List ℕ
    pub is_rule : slice_get judging.rules index ≡ Some (Disallow pattern)
    pub are_forbidden : AreForbiddenBy index pattern forbidden

  -- the rule at the index is a REQUIRE of a path that is there, and an earlier rule, in these
  -- words, is the first that claims it
  pub record IsConsumed (index : ℕ) (consumed : ConsumedPath) : Type 0 where
    pub is_rule : slice_get judging.rules index ≡ Some (Require consumed.path)
    pub is_before : consumed.index < index
    pub is_left : IsLeftAt consumed.index consumed.path
    pub consumer : Rule
    pub is_consumer : slice_get judging.rules consumed.index ≡ Some consumer
    pub claims : ClaimsPath consumer consumed.path
    pub are_words : RuleOf consumed.words consumer

  -- the rule at the index is a REQUIRE of a path that is not there
  pub record IsAbsent (index : ℕ) (path : List ℕ) : Type 0 where
    pub is_rule : slice_get judging.rules index ≡ Some (Require path)
    pub is_absent : ¬ Stands (artifacts_on judging.side judging.item) path

  -- what the rule at the index meets
  abbrev pub Meets : ℕ → Met → Type 0
  Meets index (Forbidden forbidden) = AreForbidden index forbidden
  Meets index (Consumed consumed) = IsConsumed index consumed
  Meets index (Absent path) = IsAbsent index path

abbrev pub others_form : Bool → List ℕ
others_form true = codes " and others\n"
others_form false = codes "\n"

-- the paths that a rule forbids (this project's words)
abbrev pub forbidden_form : ForbiddenPaths → List ℕ
forbidden_form forbidden =
    codes " met:" ++ flat_map word_form forbidden.paths ++ others_form forbidden.others

-- the rule that consumed a path (this project's words)
abbrev pub consumer_form : ConsumedPath → List ℕ
consumer_form consumed =
    decimal consumed.index ++ codes ":" ++ flat_map word_form consumed.words ++ codes "\n"

-- a path, and the rule that consumed it (this project's words)
unfoldable pub consumed_form : ConsumedPath → List ℕ
consumed_form consumed =
    told_form (codes ": ") consumed.path (codes " was consumed by rule ")
    ++ consumer_form consumed

-- what was met, for people (this project's words)
abbrev pub met_form : Met → List ℕ
met_form (Forbidden forbidden) = forbidden_form forbidden
met_form (Consumed consumed) = consumed_form consumed
met_form (Absent path) = told_form (codes ": no artifact ") path (codes " is there\n")
