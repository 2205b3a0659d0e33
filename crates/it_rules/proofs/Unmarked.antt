-- The unmarked paths of a list in order.
use Rattle.std.proofs.Common.{◌≡◌, ◌∙◌, ◌↔◌, ℕ, ◌<◌, ◌≤◌, List, Bool, false, length, map, get_or}
use Rattle.std.proofs.Common.{Bor, Less, Some, ap, arith, subst, sym}
use Rattle.std.specs.List.{slice_get}
use Rattle.std.specs.Option.{option_map}
use Rattle.std.proofs.lemmas.List.{get_or-map, length-map}
use Rattle.std.proofs.lemmas.Option.{slice_get-get_or, slice_get-map}
use Rattle.it_docs.specs.declared.rule.Rule.{Rule}
use Rattle.it_docs.specs.declared.rule.Side.{Side}
use Rattle.it_rules.specs.Item.{Links, Recorded}
use Rattle.it_rules.specs.Ranges.{AreInOrder}
use Rattle.it_rules.specs.Rules.{AreFree, AreSorted, IsFree}
use Rattle.it_rules.specs.Marks.{AreLeft, IsLeft, is_marked}
use Rattle.it_rules.proofs.Kept.{Kept}
use Rattle.it_rules.proofs.LentPaths.{bytes}
use Rattle.it_rules.proofs.Listed.{mapped_place, slice_get_within}
use Rattle.it_rules.proofs.PathOrder.{path_cmp}

-- what is lent in order is in order
pub sorted_bytes : (paths : List (Bor (List ℕ))) → AreInOrder paths → AreSorted (map bytes paths)
sorted_bytes paths in_order i j d l within =
    let lent : Bor (List ℕ) = record { ref_ptr = (0, 0); now = d } in
    let last : j < length paths = omega (arith, length-map paths bytes) in
    let first : i < length paths = omega arith in
    subst (λ p. path_cmp p (get_or (map bytes paths) j d) ≡ Less)
    (sym (get_or-map bytes paths i lent d first))
    (subst (λ p. path_cmp (get_or paths i lent).now p ≡ Less)
    (sym (get_or-map bytes paths j lent d last)) (in_order i j lent l last))

module _ (paths : List (Bor (List ℕ))) (marks : List Bool) where
  -- a path has no mark at its place
  abbrev pub Unmarked : ℕ → List ℕ → Type 0
  Unmarked place path = is_marked marks place ≡ false

  pub text_at : (place : ℕ) (lent : Bor (List ℕ)) → place < length paths
      → slice_get (map bytes paths) place ≡ Some (get_or paths place lent).now
  text_at place lent within = slice_get-map bytes paths place
      ∙ ap (option_map bytes) (slice_get-get_or paths place lent within)

  -- all places are looked at
  pub are_left : (left : List (List ℕ)) (place : ℕ) → length paths ≤ place
      → Kept (map bytes paths) Unmarked left place → AreLeft paths marks left
  are_left left place past h = record {
    in_order = h.in_order;
    exact = λ path. (
      λ within.
          let from = h.each path within in
          let at = mapped_place bytes (slice_get paths from.place) path
          (sym (slice_get-map bytes paths from.place) ∙ from.stands) in
          record {
            listed = record {
              place = from.place;
              lent = at.0;
              stands = at.1;
              is_path = at.2;
            };
            unmarked = from.is_in;
          },
      λ one.
          let inside = slice_get_within paths one.listed.place one.listed.lent one.listed.stands in
          h.whole path (record {
            place = one.listed.place;
            before = omega arith;
            stands = slice_get-map bytes paths one.listed.place
                ∙ ap (option_map bytes) one.listed.stands ∙ ap Some one.listed.is_path;
            is_in = one.unmarked;
          }),
    );
  }

  -- what is left after all rules is free after them
  pub free_from_left : (rules : List Rule) (side : Side) (item : Recorded) (links : Links) (i : ℕ)
      → length rules ≤ i
      → ((path : List ℕ) → IsLeft paths marks path ↔ IsFree rules side item links i path)
      → (left : List (List ℕ)) → AreLeft paths marks left
      → AreFree rules side item links (length rules) left
  free_from_left rules side item links i past free left h = record {
    in_order = h.in_order;
    exact = λ path. (
      λ within. let f = (free path).0 ((h.exact path).0 within) in record {
        stands = f.stands;
        unclaimed = λ j rule l e. f.unclaimed j rule (omega arith) e;
      },
      λ f. (h.exact path).1 ((free path).1 (record {
        stands = f.stands;
        unclaimed = λ j rule l e. f.unclaimed j rule (slice_get_within rules j rule e) e;
      })),
    );
  }
