-- What the first rules of a list leave free.
use Rattle.std.proofs.Common.{◌≡◌, ◌∙◌, ℕ, ◌<◌, ◌≤◌, List, length, take, Some, ap, arith, sym}
use Rattle.std.specs.List.{slice_get}
use Rattle.std.proofs.lemmas.List.{get_or-take, length-take-le}
use Rattle.std.proofs.lemmas.Option.{get_or_from_slice_get, slice_get-get_or, slice_get_within}
use Rattle.it_docs.specs.declared.rule.Rule.{Rule}
use Rattle.it_docs.specs.declared.rule.Side.{Side}
use Rattle.it_rules.specs.Item.{Links, Recorded}
use Rattle.it_rules.specs.Rules.{AreFree}

module _ (rules : List Rule) (i : ℕ) (within : i ≤ length rules) where
  in_front : (j : ℕ) (rule : Rule) → j < i → slice_get rules j ≡ Some rule
      → slice_get (take i rules) j ≡ Some rule
  in_front j rule l e =
      let len = length-take-le i rules within in
      slice_get-get_or (take i rules) j rule (omega arith)
      ∙ ap Some (get_or-take i rules j rule l ∙ get_or_from_slice_get rules j rule rule e)

  in_whole : (j : ℕ) (rule : Rule) → slice_get (take i rules) j ≡ Some rule
      → slice_get rules j ≡ Some rule
  in_whole j rule e =
      let len = length-take-le i rules within in
      let below = slice_get_within (take i rules) j rule e in
      slice_get-get_or rules j rule (omega arith)
      ∙ ap Some (sym (get_or-take i rules j rule (omega arith))
      ∙ get_or_from_slice_get (take i rules) j rule rule e)

  -- what the rules before a place leave free is free before the rule there
  pub free_of_front : (side : Side) (item : Recorded) (links : Links) (paths : List (List ℕ))
      → AreFree (take i rules) side item links (length (take i rules)) paths
      → AreFree rules side item links i paths
  free_of_front side item links paths h =
      let len = length-take-le i rules within in
      record {
        in_order = h.in_order;
        exact = λ path. (
          λ among. let f = (h.exact path).0 among in record {
            stands = f.stands;
            unclaimed = λ j rule l e. f.unclaimed j rule (omega arith) (in_front j rule l e);
          },
          λ f. (h.exact path).1 (record {
            stands = f.stands;
            unclaimed = λ j rule l e. f.unclaimed j rule (omega arith) (in_whole j rule e);
          }),
        );
      }
