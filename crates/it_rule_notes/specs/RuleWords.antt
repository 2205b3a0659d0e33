-- The words of an artifact rule as the standard writes them (in-toto 1.0 section 4.3.3): its
-- keywords in capitals, and a prefix only where it is not empty.
use Rattle.std.specs.Prelude.{ℕ, List, [], ◌∷◌, ◌++◌, codes}
use Rattle.it_docs.specs.declared.rule.Rule.{Rule}
use Rattle.it_docs.specs.declared.rule.Rule.TheVariants.{Match, Create, Delete, Modify, Allow}
use Rattle.it_docs.specs.declared.rule.Rule.TheVariants.{Disallow, Require}
use Rattle.it_docs.specs.declared.rule.Side.{Side}
use Rattle.it_docs.specs.declared.rule.Side.TheVariants.{Materials, Products}

abbrev pub side_word : Side → List ℕ
side_word Materials = codes "MATERIALS"
side_word Products = codes "PRODUCTS"

-- IN and the prefix, or nothing if it is empty
abbrev pub prefix_words : List ℕ → List (List ℕ)
prefix_words [] = []
prefix_words (byte ∷ bytes) = codes "IN" ∷ (byte ∷ bytes) ∷ []

-- the keyword, the pattern, and the prefix on the judged side
abbrev pub source_words : List ℕ → List ℕ → List (List ℕ)
source_words pattern source = codes "MATCH" ∷ pattern ∷ prefix_words source

-- what follows: the side and the prefix in the named step, and the step's name
abbrev pub target_words : Side → List ℕ → List ℕ → List (List ℕ)
target_words side target step =
    codes "WITH" ∷ side_word side ∷ prefix_words target ++ codes "FROM" ∷ step ∷ []

-- the words of a rule of each kind
abbrev pub words_of_rule : Rule → List (List ℕ)
words_of_rule (Match pattern source side target step) =
    source_words pattern source ++ target_words side target step
words_of_rule (Create pattern) = codes "CREATE" ∷ pattern ∷ []
words_of_rule (Delete pattern) = codes "DELETE" ∷ pattern ∷ []
words_of_rule (Modify pattern) = codes "MODIFY" ∷ pattern ∷ []
words_of_rule (Allow pattern) = codes "ALLOW" ∷ pattern ∷ []
words_of_rule (Disallow pattern) = codes "DISALLOW" ∷ pattern ∷ []
words_of_rule (Require path) = codes "REQUIRE" ∷ path ∷ []
