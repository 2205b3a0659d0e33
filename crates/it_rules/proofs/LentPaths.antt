-- The paths of a map, lent in their order.
use Rattle.std.proofs.Common.{◌≡◌, ◌∙◌, ℕ, List, [], ◌∷◌, ◌++◌, map, get_or, All, Contains, Some}
use Rattle.std.proofs.Common.{Bor, Less, sym, ap, subst, arith}
use Rattle.std.proofs.Common.{append_assoc}
use Rattle.std.specs.FinMap.{contains_key-keys, keys}
use Rattle.std.specs.List.{slice_get}
use Rattle.std.specs.List.Sorted.{IsStrictlySortedBy}
use Rattle.std.specs.Ordering.{eq_by_cmp}
use Rattle.std.specs.Option.{option_map}
use Rattle.std.specs.Str.{IsUtf8}
use Rattle.std.proofs.lemmas.List.{get_or-map, length-map, map-append}
use Rattle.std.proofs.lemmas.List.Folds.{Any-from_list_any}
use Rattle.std.proofs.lemmas.Map.Keys.{any_passes_from_place, Less-from_sorted}
use Rattle.std.proofs.lemmas.Option.{slice_get-map}
use Rattle.it_digest.specs.Artifacts.{ArtifactMap}
use Rattle.it_rules.specs.Paths.{ArePathsOf, IsListed}
use Rattle.it_rules.specs.Rules.{Stands}
use Rattle.it_rules.proofs.Listed.{Contains-map_cases}
use Rattle.it_rules.proofs.PathOrder.{path_cmp, same_path, same_self}

-- a lent path's bytes
abbrev pub bytes : Bor (List ℕ) → List ℕ
bytes lent = lent.now

-- one that is lent instead of coming next
pub lent_more : {X Y Z : Type 0} (f : X → Z) (g : Y → Z) (lent : List X) (next : X) (y : Y)
    (rest : List Y) → f next ≡ g y
    → map f (lent ++ next ∷ []) ++ map g rest ≡ map f lent ++ map g (y ∷ rest)
lent_more f g lent next y rest e =
    ap (λ l. l ++ map g rest) (map-append f lent (next ∷ []))
    ∙ append_assoc (map f lent) (f next ∷ []) (map g rest)
    ∙ ap (λ b. map f lent ++ b ∷ map g rest) e

module _ (artifacts : ArtifactMap) (paths : List (Bor (List ℕ)))
    (whole : map bytes paths ≡ keys artifacts)
    (sorted : IsStrictlySortedBy path_cmp (keys artifacts)) where
  listed_stands : (path : List ℕ) → IsListed paths path → Stands artifacts path
  listed_stands path l =
      let at : slice_get (keys artifacts) l.place ≡ Some path =
      ap (λ ks. slice_get ks l.place) (sym whole) ∙ slice_get-map bytes paths l.place
      ∙ ap (option_map bytes) l.stands ∙ ap Some l.is_path in
      contains_key-keys artifacts path ∙ any_passes_from_place (eq_by_cmp path_cmp path)
      (keys artifacts) l.place path at (same_self path)

  stands_listed : (path : List ℕ) → Stands artifacts path → IsListed paths path
  stands_listed path s =
      let a = Any-from_list_any (eq_by_cmp path_cmp path) (keys artifacts)
      (sym (contains_key-keys artifacts path) ∙ s) in
      let m = Contains-map_cases bytes paths a.1
      (subst (λ ks. Contains ks a.1) (sym whole) (a.0, a.2, a.3)) in
      record { place = m.0; lent = m.1; stands = m.2; is_path = m.3 ∙ sym (same_path path a.1 a.4) }

  pub are_paths_of : All (λ lent. IsUtf8 lent.now) paths → ArePathsOf artifacts paths
  are_paths_of texts = record {
    are_paths = record {
      in_order = λ i j d l within.
          let less = Less-from_sorted path_cmp (map bytes paths) i j d.now
          (subst (IsStrictlySortedBy path_cmp) (sym whole) sorted) l
          (omega (arith, length-map paths bytes)) in
          subst (λ p. path_cmp p (get_or paths j d).now ≡ Less)
          (get_or-map bytes paths i d d.now (omega arith))
          (subst (λ p. path_cmp (get_or (map bytes paths) i d.now) p ≡ Less)
          (get_or-map bytes paths j d d.now within) less);
      are_texts = texts;
    };
    whole = λ path. (listed_stands path, stands_listed path);
  }
