-- Artifact rules as lists of texts (in-toto 1.0, section 4.3.3, artifact rules). Keywords,
-- including those of the sides, are compared without regard to ASCII case (this profile's choice).
use Rattle.std.specs.Prelude.{◌≡◌, ℕ, List, [], ◌∷◌, ◌++◌, Bool, true, codes}
use Rattle.std.specs.Str.{str_eq_ignore_ascii_case}
use Rattle.serde_json.specs.Data.{Data}
use Rattle.it_base.specs.Sequence.{IsList}
use Rattle.it_base.specs.Text.{IsText}
use Rattle.it_docs.specs.declared.rule.Rule.{Rule}
use Rattle.it_docs.specs.declared.rule.Rule.TheVariants.{Match, Create, Delete, Modify, Allow}
use Rattle.it_docs.specs.declared.rule.Rule.TheVariants.{Disallow, Require}
use Rattle.it_docs.specs.declared.rule.Side.{Side}
use Rattle.it_docs.specs.declared.rule.Side.TheVariants.{Materials, Products}

-- whether the text is this keyword
abbrev pub is_keyword : List ℕ → List ℕ → Bool
is_keyword keyword text = str_eq_ignore_ascii_case text keyword

abbrev pub IsKeyword : List ℕ → List ℕ → Type 0
IsKeyword keyword text = is_keyword keyword text ≡ true

-- the text is the keyword of this side
abbrev pub IsSide : Side → List ℕ → Type 0
IsSide Materials text = IsKeyword (codes "MATERIALS") text
IsSide Products text = IsKeyword (codes "PRODUCTS") text

-- a keyword and what follows it
pub record IsShort (texts : List (List ℕ)) (keyword operand : List ℕ) : Type 0 where
  pub first : List ℕ
  pub texts_are : texts ≡ first ∷ operand ∷ []
  pub is_first : IsKeyword keyword first

-- the words of a prefix are IN and the prefix; a missing prefix has no words, and is empty
abbrev pub IsPrefix : List (List ℕ) → List ℕ → Type 0
IsPrefix [] prefix = prefix ≡ []
IsPrefix (within ∷ rest) prefix = IsKeyword (codes "IN") within × (rest ≡ prefix ∷ [])

-- the texts are MATCH pattern [IN source] WITH side [IN target] FROM step
pub record MatchOf (texts : List (List ℕ)) (pattern source : List ℕ) (side : Side)
    (target step : List ℕ) : Type 0 where
  pub match : List ℕ
  pub in_source : List (List ℕ)
  pub with : List ℕ
  pub side_word : List ℕ
  pub in_target : List (List ℕ)
  pub from : List ℕ
  pub texts_are : texts
      ≡ match ∷ pattern ∷ in_source ++ with ∷ side_word ∷ in_target ++ from ∷ step ∷ []
  pub is_match : IsKeyword (codes "MATCH") match
  pub is_source : IsPrefix in_source source
  pub is_with : IsKeyword (codes "WITH") with
  pub is_side : IsSide side side_word
  pub is_target : IsPrefix in_target target
  pub is_from : IsKeyword (codes "FROM") from

-- the texts are this rule
abbrev pub RuleOf : List (List ℕ) → Rule → Type 0
RuleOf texts (Match pattern source side target step) = MatchOf texts pattern source side target step
RuleOf texts (Create pattern) = IsShort texts (codes "CREATE") pattern
RuleOf texts (Delete pattern) = IsShort texts (codes "DELETE") pattern
RuleOf texts (Modify pattern) = IsShort texts (codes "MODIFY") pattern
RuleOf texts (Allow pattern) = IsShort texts (codes "ALLOW") pattern
RuleOf texts (Disallow pattern) = IsShort texts (codes "DISALLOW") pattern
RuleOf texts (Require path) = IsShort texts (codes "REQUIRE") path

-- the part is a list of texts that are this rule
abbrev pub IsRule : Data → Rule → Type 0
IsRule d rule = (texts : List (List ℕ)) × IsList IsText d texts × RuleOf texts rule
