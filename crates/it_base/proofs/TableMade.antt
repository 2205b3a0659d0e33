-- Maps that are made of all their entries at once.
use Rattle.std.proofs.Common.{◌≡◌, ◌⊎◌, ℕ, List, [], ◌∷◌, ◌++◌, true, false, cond}
use Rattle.std.proofs.Common.{Some, None, String, Global, string_bytes, string_cmp, is_eq}
use Rattle.std.proofs.Common.{inl, inr, refl, sym, ap, subst, ◌∙◌}
use Rattle.std.specs.Cmp.{eq_by_cmp_equiv}
use Rattle.std.specs.FinMap.{empty, from_entries, get, get-empty, get-insert, insert}
use Rattle.std.specs.FinMap.{nat_cmp-IsAntisymmetric, same_map, slice_cmp-IsAntisymmetric}
use Rattle.std.specs.BTreeMap.{is_at}
use Rattle.std.specs.Map.{lookup, update_all}
use Rattle.std.specs.Ordering.{eq_by_cmp}
use Rattle.std.proofs.lemmas.Cmp.{nat_list_cmp_total}
use Rattle.std.proofs.lemmas.Map.{update_all_push}
use Rattle.std.proofs.lemmas.Map.Text.{is_eq-slice_cmp}
use Rattle.std.proofs.lemmas.Slice.Eq.{bytes_eq-Decides}
use Rattle.it_base.specs.Table.{Named, named_entries}
use Rattle.it_base.proofs.TableLemmas.{get-named_entries, text_cmp}

-- a name is that of a string
abbrev pub IsOfString : List ℕ → Type 0
IsOfString name = (k : String Global) × (string_bytes k ≡ name)

is_name : (name other : List ℕ) → is_eq (text_cmp name other) ≡ true → name ≡ other
is_name name other e = (bytes_eq-Decides name other).0 (sym (is_eq-slice_cmp name other) ∙ e)

module _ {X : Type 0} where
  -- the map has the values of these entries, of each name the last
  pub record Holds (m : Named X) (es : List (String Global × X)) : Type 0 where
    pub values : (k : String Global)
        → get m (string_bytes k) ≡ update_all (eq_by_cmp string_cmp) (λ _. None) es k
    pub names : (name : List ℕ) → (get m name ≡ None) ⊎ IsOfString name

  pub holds_none : Holds empty []
  holds_none = record {
    values = λ k. get-empty text_cmp (string_bytes k);
    names = λ name. inl (get-empty text_cmp name);
  }

  -- one more entry
  pub holds_more : (m : Named X) (es : List (String Global × X)) (k : String Global)
      (name : List ℕ) (x : X) → string_bytes k ≡ name → Holds m es
      → Holds (insert m name x) (es ++ (k, x) ∷ [])
  holds_more m es k name x same h =
      let at : (other : List ℕ) → get (insert m name x) other
      ≡ cond (is_eq (text_cmp other name)) (Some x) (get m other) =
      λ other. get-insert nat_list_cmp_total m name x other in
      record {
        values = λ q. at (string_bytes q)
            ∙ ap (λ b. cond b (Some x) (get m (string_bytes q)))
            ((eq_by_cmp_equiv nat_list_cmp_total).symm (string_bytes q) name
            ∙ ap (λ n. is_eq (text_cmp n (string_bytes q))) (sym same))
            ∙ update_all_push (eq_by_cmp string_cmp) (λ _. None) (λ q. get m (string_bytes q)) es
            (k, x) q (h.values q);
        names = λ other.
            elim (is_eq (text_cmp other name)) as (λ b. is_eq (text_cmp other name) ≡ b
            → (get (insert m name x) other ≡ None) ⊎ IsOfString other) [
              | true ↦ λ e. inr (k, same ∙ sym (is_name other name e))
              | false ↦ λ e. elim (h.names other) [
                | inl none ↦ inl (at other ∙ ap (λ b. cond b (Some x) (get m other)) e ∙ none)
                | inr s ↦ inr s
              ]
            ] refl;
      }

  found_name : (name : List ℕ) (es : List (String Global × X))
      → (lookup (is_at (λ k. text_cmp name (string_bytes k))) es ≡ None) ⊎ IsOfString name
  found_name name [] = inl refl
  found_name name (e ∷ es) =
      elim (is_eq (text_cmp name (string_bytes e.0))) as (λ b.
      is_eq (text_cmp name (string_bytes e.0)) ≡ b
      → (cond b (Some e.1) (lookup (is_at (λ k. text_cmp name (string_bytes k))) es) ≡ None)
      ⊎ IsOfString name) [
        | true ↦ λ same. inr (e.0, sym (is_name name (string_bytes e.0) same))
        | false ↦ λ _. found_name name es
      ] refl

  -- entries with the same values are the map
  pub map-of_entries : (m : Named X) (es made : List (String Global × X)) → Holds m es
      → ((k : String Global) → lookup (is_at (string_cmp k)) made
      ≡ update_all (eq_by_cmp string_cmp) (λ _. None) es k)
      → from_entries (named_entries made) ≡ m
  map-of_entries m es made h same =
      let Same : List ℕ → Type 0 = λ name.
      lookup (is_at (λ k. text_cmp name (string_bytes k))) made ≡ get m name in
      let of_string : (name : List ℕ) → IsOfString name → Same name =
      λ name s. subst Same s.1 (same s.0 ∙ sym (h.values s.0)) in
      same_map nat_list_cmp_total (slice_cmp-IsAntisymmetric nat_cmp-IsAntisymmetric)
      (from_entries (named_entries made)) m (λ name. get-named_entries name made
      ∙ elim (found_name name made) [
        | inl none ↦ elim (h.names name) [
          | inl missing ↦ none ∙ sym missing
          | inr s ↦ of_string name s
        ]
        | inr s ↦ of_string name s
      ])
