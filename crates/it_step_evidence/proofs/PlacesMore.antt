-- The places of signatures in files, one file more.
use Rattle.std.proofs.Common.{◌≡◌, ◌∙◌, ◌++◌, ◌∷◌, ◌⊎◌, [], ℕ, List, Option, None, Some, cond, false}
use Rattle.std.proofs.Common.{inl, inr, sym, ap, subst, nat_cmp}
use Rattle.std.specs.Cmp.Lexicographic.{slice_cmp}
use Rattle.std.specs.FinMap.{empty, get, get-empty, get-insert, insert}
use Rattle.std.specs.Str.{bytes_eq}
use Rattle.std.proofs.lemmas.Bool.{cases_Bool}
use Rattle.std.proofs.lemmas.Cmp.{nat_list_cmp_total}
use Rattle.std.proofs.lemmas.List.Elements.{Contains-append_left, Contains-push, Contains-push_cases}
use Rattle.std.proofs.lemmas.Map.Text.{is_eq-slice_cmp}
use Rattle.std.proofs.lemmas.Slice.Eq.{bytes_eq-Decides}
use Rattle.it_base.specs.Finds.{Finds}
use Rattle.it_base.specs.Table.{Named}
use Rattle.it_base.proofs.Members.{in_none}
use Rattle.it_dsse.specs.Panel.{Panel}
use Rattle.it_dsse.specs.declared.key_object.KeyObject.{KeyObject}
use Rattle.it_chain.specs.declared.bundle.File.{File}
use Rattle.it_step_evidence.specs.inside.Counting.{ArePlaces, HoldsAt, IsPlaceFor, with_place}

-- a reader finds the same where each of two facts gives the other
finds_alike : (P Q : ℕ → Type 0) → ((n : ℕ) → P n → Q n) → ((n : ℕ) → Q n → P n)
    → (found : Option ℕ) → Finds P found → Finds Q found
finds_alike P Q to from None none = λ n q. none n (from n q)
finds_alike P Q to from (Some n) p = to n p

module _ (panel : Panel) (step : List ℕ) (signer : List ℕ × KeyObject) where
  -- no file has a place
  pub no_places : ArePlaces panel step [] signer empty
  no_places = λ name. subst (Finds (IsPlaceFor panel step [] signer name))
      (sym (get-empty (slice_cmp nat_cmp) name)) (λ place is. in_none is.file is.stands)

  module _ (files : List File) (file : File) (places : Named ℕ)
      (are : ArePlaces panel step files signer places) where
    abbrev before : List ℕ → ℕ → Type 0
    before = IsPlaceFor panel step files signer

    abbrev after : List ℕ → ℕ → Type 0
    after = IsPlaceFor panel step (files ++ file ∷ []) signer

    abbrev Holds : ℕ → Type 0
    Holds = HoldsAt panel step signer.0 signer.1 file

    still : (name : List ℕ) (place : ℕ) → before name place → after name place
    still name place is = record {
      file = is.file;
      stands = Contains-append_left files (file ∷ []) is.file is.stands;
      name_is = is.name_is;
      holds = is.holds;
    }

    of_which : (name : List ℕ) (place : ℕ) → after name place
        → before name place ⊎ ((file.name ≡ name) × Holds place)
    of_which name place is = elim (Contains-push_cases files file is.file is.stands) [
      | inl stands ↦ inl (record {
        file = is.file;
        stands = stands;
        name_is = is.name_is;
        holds = is.holds;
      })
      | inr same ↦ inr (
        ap (λ (f : File). f.name) same ∙ is.name_is,
        subst (λ (f : File). HoldsAt panel step signer.0 signer.1 f place) (sym same) is.holds,
      )
    ]

    none_more : ((place : ℕ) → ¬ Holds place)
        → ArePlaces panel step (files ++ file ∷ []) signer places
    none_more none = λ name. finds_alike (before name) (after name) (still name)
        (λ place is. elim (of_which name place is) [
          | inl earlier ↦ earlier
          | inr last ↦ absurd (none place last.1)
        ]) (get places name) (are name)

    other : (name : List ℕ) → bytes_eq name file.name ≡ false → Finds (after name) (get places name)
    other name differ = finds_alike (before name) (after name) (still name)
        (λ place is. elim (of_which name place is) [
          | inl earlier ↦ earlier
          | inr last ↦
              let same = (bytes_eq-Decides name file.name).1 (sym last.0) in
              absurd (cc (same, differ))
        ]) (get places name) (are name)

    put_at : (place : ℕ) → Holds place → (name : List ℕ)
        → Finds (after name) (cond (bytes_eq name file.name) (Some place) (get places name))
    put_at place holds name = elim (cases_Bool (bytes_eq name file.name)) [
      | inl e ↦ rw e (record {
        file = file;
        stands = Contains-push files file;
        name_is = sym ((bytes_eq-Decides name file.name).0 e);
        holds = holds;
      })
      | inr e ↦ rw e (other name e)
    ]

    one_more : (place : ℕ) → Holds place
        → ArePlaces panel step (files ++ file ∷ []) signer (insert places file.name place)
    one_more place holds = λ name.
        subst (Finds (after name))
        (sym (get-insert nat_list_cmp_total places file.name place name
        ∙ ap (λ b. cond b (Some place) (get places name)) (is_eq-slice_cmp name file.name)))
        (put_at place holds name)

    -- the places with that of one more file, if it has one
    pub places_more : (found : Option ℕ) → Finds Holds found
        → ArePlaces panel step (files ++ file ∷ []) signer (with_place file.name found places)
    places_more None none = none_more none
    places_more (Some place) holds = one_more place holds
