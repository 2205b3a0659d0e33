-- The digests of a map's paths, lent in the order of the paths.
use Rattle.std.proofs.Common.{◌≡◌, ◌∙◌, ℕ, List, [], ◌∷◌, length, map, Some, Bor, sym, ap, subst}
use Rattle.std.proofs.Common.{String, Global, refl}
use Rattle.std.specs.FinMap.{entries, get, keys, values}
use Rattle.std.specs.List.{slice_get}
use Rattle.std.specs.Option.{option_map}
use Rattle.std.proofs.lemmas.List.{length-map}
use Rattle.std.proofs.lemmas.Option.{slice_get-map}
use Rattle.it_digest.specs.Artifacts.{ArtifactMap, path_entries}
use Rattle.it_digest.specs.declared.compare.DigestSet.{DigestSet}
use Rattle.it_digest.proofs.Entries.{entry_known}
use Rattle.it_rules.specs.inside.Judged.{AreDigestsOf}
use Rattle.it_rules.proofs.LentPaths.{bytes}
use Rattle.it_rules.proofs.Listed.{Contains-from_place, mapped_place}

-- a lent digest set
abbrev pub set_of : Bor DigestSet → DigestSet
set_of lent = lent.now

-- the digests of an entry
abbrev pub set_in : String Global × DigestSet → DigestSet
set_in entry = entry.1

-- they are those of the entry by the bytes of its path
pub sets-path_entries : (es : List (String Global × DigestSet))
    → map (λ (e : List ℕ × DigestSet). e.1) (path_entries es) ≡ map set_in es
sets-path_entries [] = refl
sets-path_entries (e ∷ es) = ap (λ sets. e.1 ∷ sets) (sets-path_entries es)

module _ (artifacts : ArtifactMap) (paths : List (Bor (List ℕ))) (digests : List (Bor DigestSet))
    (whole : map bytes paths ≡ keys artifacts) (all : map set_of digests ≡ values artifacts) where
  -- the entry at a place has the path and the digests there
  known : (place : ℕ) (path : Bor (List ℕ)) (found : Bor DigestSet)
      → slice_get paths place ≡ Some path → slice_get digests place ≡ Some found
      → get artifacts path.now ≡ Some found.now
  known place path found here there =
      let key : option_map (λ (e : List ℕ × DigestSet). e.0) (slice_get (entries artifacts) place)
      ≡ Some path.now =
      sym (slice_get-map (λ (e : List ℕ × DigestSet). e.0) (entries artifacts) place)
      ∙ ap (λ ks. slice_get ks place) (sym whole) ∙ slice_get-map bytes paths place
      ∙ ap (option_map bytes) here in
      let value : option_map (λ (e : List ℕ × DigestSet). e.1) (slice_get (entries artifacts) place)
      ≡ Some found.now =
      sym (slice_get-map (λ (e : List ℕ × DigestSet). e.1) (entries artifacts) place)
      ∙ ap (λ sets. slice_get sets place) (sym all) ∙ slice_get-map set_of digests place
      ∙ ap (option_map set_of) there in
      let entry = mapped_place (λ (e : List ℕ × DigestSet). e.0) (slice_get (entries artifacts) place)
      path.now key in
      let same = mapped_place (λ (e : List ℕ × DigestSet). e.1) (slice_get (entries artifacts) place)
      found.now value in
      let at = entry_known artifacts entry.0
      (Contains-from_place (entries artifacts) place entry.0 entry.1) in
      let one : entry.0 ≡ same.0 = cc (entry.1, same.1) in
      subst (λ p. get artifacts p ≡ Some found.now) entry.2
      (at ∙ ap Some (ap (λ (e : List ℕ × DigestSet). e.1) one ∙ same.2))

  pub are_digests_of : AreDigestsOf artifacts paths digests
  are_digests_of = record {
    lengths = sym (length-map digests set_of) ∙ ap length all
        ∙ length-map (entries artifacts) (λ (e : List ℕ × DigestSet). e.1)
        ∙ sym (length-map (entries artifacts) (λ (e : List ℕ × DigestSet). e.0))
        ∙ ap length (sym whole) ∙ length-map paths bytes;
    each = known;
  }
