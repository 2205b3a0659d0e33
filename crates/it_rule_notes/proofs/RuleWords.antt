-- The written words of a rule are that rule.
use Rattle.std.proofs.Common.{ℕ, List, [], ◌∷◌, codes, refl, sym, append_assoc}
use Rattle.it_docs.specs.Rule.{RuleOf, IsPrefix, IsSide}
use Rattle.it_docs.specs.declared.rule.Rule.{Rule}
use Rattle.it_docs.specs.declared.rule.Rule.TheVariants.{Match, Create, Delete, Modify, Allow}
use Rattle.it_docs.specs.declared.rule.Rule.TheVariants.{Disallow, Require}
use Rattle.it_docs.specs.declared.rule.Side.{Side}
use Rattle.it_docs.specs.declared.rule.Side.TheVariants.{Materials, Products}
use Rattle.it_rule_notes.specs.RuleWords.{prefix_words, side_word, words_of_rule}

prefix-is : (prefix : List ℕ) → IsPrefix (prefix_words prefix) prefix
prefix-is [] = refl
prefix-is (byte ∷ bytes) = (refl, refl)

side-is : (side : Side) → IsSide side (side_word side)
side-is Materials = refl
side-is Products = refl

pub rule_of-words : (rule : Rule) → RuleOf (words_of_rule rule) rule
rule_of-words (Match pattern source side target step) = record {
  match = codes "MATCH";
  in_source = prefix_words source;
  with = codes "WITH";
  side_word = side_word side;
  in_target = prefix_words target;
  from = codes "FROM";
  texts_are = sym (append_assoc (codes "MATCH" ∷ pattern ∷ prefix_words source)
      (codes "WITH" ∷ side_word side ∷ prefix_words target) (codes "FROM" ∷ step ∷ []));
  is_match = refl;
  is_source = prefix-is source;
  is_with = refl;
  is_side = side-is side;
  is_target = prefix-is target;
  is_from = refl;
}
rule_of-words (Create pattern) =
    record { first = codes "CREATE"; texts_are = refl; is_first = refl }
rule_of-words (Delete pattern) =
    record { first = codes "DELETE"; texts_are = refl; is_first = refl }
rule_of-words (Modify pattern) =
    record { first = codes "MODIFY"; texts_are = refl; is_first = refl }
rule_of-words (Allow pattern) =
    record { first = codes "ALLOW"; texts_are = refl; is_first = refl }
rule_of-words (Disallow pattern) =
    record { first = codes "DISALLOW"; texts_are = refl; is_first = refl }
rule_of-words (Require path) =
    record { first = codes "REQUIRE"; texts_are = refl; is_first = refl }
