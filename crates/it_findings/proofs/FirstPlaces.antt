-- The first places of keys.
use Rattle.std.proofs.Common.{◌≡◌, ◌∙◌, ℕ, List, true, false, cond, Option, Some, None, Bor}
use Rattle.std.proofs.Common.{option_map, is_some, refl, sym, ap, inl, inr}
use Rattle.std.specs.FinMap.{get, get-insert, insert}
use Rattle.std.specs.List.{find, slice_get}
use Rattle.std.specs.Option.{option_and_then, option_or}
use Rattle.std.specs.Str.{bytes_eq}
use Rattle.std.proofs.lemmas.Bool.{cases_Bool, false≢true}
use Rattle.std.proofs.lemmas.Cmp.{nat_list_cmp_total}
use Rattle.std.proofs.lemmas.Map.Text.{is_eq-slice_cmp}
use Rattle.std.proofs.lemmas.Slice.Eq.{bytes_eq-Decides}
use Rattle.it_base.specs.Table.{Named}
use Rattle.it_dsse.proofs.Places.{find-position}
use Rattle.it_findings.specs.SharedKeys.{is_key, is_same_key}
use Rattle.it_findings.specs.declared.key_use.KeyUse.{KeyUse}
use Rattle.it_findings.specs.declared.listed_key.ListedKey.{ListedKey}
use Rattle.it_findings.specs.inside.FirstPlaces.{ArePlaces, KeepsFirst, name_of}
use Rattle.it_findings.proofs.KeyNames.{told_apart}

or_none : (o : Option ℕ) → o ≡ option_or o None
or_none None = refl
or_none (Some n) = refl

module _ (key : ListedKey) (place : ℕ) (places : Named ℕ) where
  kept_at : (n : ℕ) → get places (name_of key) ≡ Some n → (q : ListedKey)
      → get places (name_of q)
      ≡ option_or (get places (name_of q)) (cond (is_same_key q key) (Some place) None)
  kept_at n there q = elim (cases_Bool (bytes_eq (name_of q) (name_of key))) [
    | inl e ↦
        let is : get places (name_of q) ≡ Some n =
        ap (get places) ((bytes_eq-Decides (name_of q) (name_of key)).0 e) ∙ there in
        rw is refl
    | inr e ↦ rw (sym (told_apart q key) ∙ e) (or_none (get places (name_of q)))
  ]

  -- a place that was there is kept
  pub kept : (n : ℕ) → get places (name_of key) ≡ Some n → KeepsFirst key place places places
  kept n there = λ q. kept_at n there q

  put_at : get places (name_of key) ≡ None → (q : ListedKey)
      → cond (is_same_key q key) (Some place) (get places (name_of q))
      ≡ option_or (get places (name_of q)) (cond (is_same_key q key) (Some place) None)
  put_at none q = elim (cases_Bool (bytes_eq (name_of q) (name_of key))) [
    | inl e ↦
        let is : get places (name_of q) ≡ None =
        ap (get places) ((bytes_eq-Decides (name_of q) (name_of key)).0 e) ∙ none in
        rw (sym (told_apart q key) ∙ e, is) refl
    | inr e ↦ rw (sym (told_apart q key) ∙ e) (or_none (get places (name_of q)))
  ]

  -- a place is put where there was none
  pub put : get places (name_of key) ≡ None
      → KeepsFirst key place places (insert places (name_of key) place)
  put none = λ q.
      get-insert nat_list_cmp_total places (name_of key) place (name_of q)
      ∙ ap (λ b. cond b (Some place) (get places (name_of q)))
      (is_eq-slice_cmp (name_of q) (name_of key) ∙ told_apart q key)
      ∙ put_at none q

-- a place that is lent is there, and one that is not is missing
pub is_there : (lent : Option (Bor ℕ)) (at : Option ℕ) → is_some lent ≡ true
    → option_map (λ v. v.now) lent ≡ at → (n : ℕ) × (at ≡ Some n)
is_there None at is same = absurd (false≢true is)
is_there (Some v) at is same = (v.now, sym same)

pub is_missing : (lent : Option (Bor ℕ)) (at : Option ℕ) → is_some lent ≡ false
    → option_map (λ v. v.now) lent ≡ at → at ≡ None
is_missing None at is same = sym same
is_missing (Some v) at is same = absurd (false≢true (sym is))

-- what stands at the first place of a key is the first use of it
pub first_at : (uses : List KeyUse) (places : Named ℕ) (key : ListedKey) (name : List ℕ)
    (at : Option ℕ) → ArePlaces uses places → at ≡ get places name → name ≡ name_of key
    → option_and_then (slice_get uses) at ≡ find (is_key key) uses
first_at uses places key name at are is named =
    ap (option_and_then (slice_get uses)) (is ∙ ap (get places) named ∙ are key)
    ∙ sym (find-position (is_key key) uses)
