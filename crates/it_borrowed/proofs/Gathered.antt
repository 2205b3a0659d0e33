-- The last members of an object, gathered one after another.
use Rattle.std.proofs.Common.{◌+◌, ◌<◌, length, take, get_or, subst}
use Rattle.std.proofs.lemmas.List.{take_more}
use Rattle.std.proofs.Common.{◌≡◌, ℕ, List, [], ◌∷◌, ◌++◌, Bool, true, false, cond, Option, Some}
use Rattle.std.proofs.Common.{option_map, string_bytes, bytes_eq, true≢false, Bor, refl, sym}
use Rattle.std.proofs.Common.{ap, ◌∙◌}
use Rattle.std.specs.declared.alloc.Global.{Global}
use Rattle.std.specs.BTreeMap.{BTreeMap, IsFromIterResult}
use Rattle.std.specs.FinMap.{empty, get, get-empty, get-insert, insert}
use Rattle.std.specs.String.{string_cmp}
use Rattle.std.proofs.Common.{String}
use Rattle.std.proofs.lemmas.Cmp.{nat_list_cmp_total}
use Rattle.std.proofs.lemmas.Map.Text.{is_eq-slice_cmp}
use Rattle.std.proofs.lemmas.Slice.Eq.{bytes_eq-Decides}
use Rattle.json.specs.Value.{members_view}
use Rattle.json.specs.declared.value.Value.{Value}
use Rattle.serde_json.specs.Data.{Data, Members, no_members, put}
use Rattle.serde_json.specs.Find.{get_member}
use Rattle.serde_json.proofs.Views.{get_member-put, get_member-put_other}
use Rattle.it_base.specs.Table.{Named}
use Rattle.it_base.proofs.TableLemmas.{get-named_entries, text_cmp}
use Rattle.it_base.proofs.TableMade.{Holds, map-of_entries}
use Rattle.it_borrowed.specs.Tree.{as_data, data_of_members}
use Rattle.it_borrowed.specs.inside.Last.{AreLast, Entry}
use Rattle.it_borrowed.proofs.Trees.{data_of_members-push}

abbrev Gathered : Type 0
Gathered = Named (Bor (Value Global))

abbrev shown : Option (Bor (Value Global)) → Option Data
shown = option_map (λ v. as_data v.now)

-- the map has at each name the member of that name
abbrev pub Gathers : Members → Gathered → Type 0
Gathers ms m = (name : List ℕ) → shown (get m name) ≡ get_member name ms

pub gathered_none : Gathers no_members empty
gathered_none name = ap shown (get-empty text_cmp name)

pub gathered_more : (ms : Members) (m : Gathered) (k : List ℕ) (v : Bor (Value Global))
    → Gathers ms m → Gathers (put k (as_data v.now) ms) (insert m k v)
gathered_more ms m k v before name =
    let at : (b : Bool) → bytes_eq name k ≡ b
    → shown (get (insert m k v) name) ≡ shown (cond b (Some v) (get m name)) =
    λ b h. ap shown (get-insert nat_list_cmp_total m k v name
    ∙ ap (λ b. cond b (Some v) (get m name)) (is_eq-slice_cmp name k ∙ h)) in
    elim (bytes_eq name k) as (λ b. bytes_eq name k ≡ b → shown (get (insert m k v) name)
    ≡ get_member name (put k (as_data v.now) ms)) [
      | true ↦ λ h.
          let same : name ≡ k = (bytes_eq-Decides name k).0 h in
          at true h ∙ sym (ap (λ n. get_member n (put k (as_data v.now) ms)) same
          ∙ get_member-put k (as_data v.now) ms)
      | false ↦ λ h.
          let other = λ (s : name ≡ k). absurd
          (true≢false (sym ((bytes_eq-Decides name k).1 s) ∙ h)) in
          at false h ∙ before name ∙ sym (get_member-put_other name k (as_data v.now) ms other)
    ] refl

-- the map that is made of the gathered entries
pub gathered_last : (ms : Members) (m : Gathered) (es : List Entry)
    (last : BTreeMap (String Global) (Bor (Value Global))) → Holds m es → Gathers ms m
    → IsFromIterResult string_cmp es last → AreLast ms last
gathered_last ms m es last holds are made name =
    ap shown (sym (get-named_entries name last.entries)
    ∙ ap (λ made. get made name) (map-of_entries m es last.entries holds made.0))
    ∙ are name

-- the next member of an object goes in
pub gathered_next : (ms : List (Bor (List ℕ) × Value Global)) (i : ℕ)
    (here : Bor (List ℕ) × Value Global) (e : Entry) (m : Gathered) → i < length ms
    → here ≡ get_or ms i here → string_bytes e.0 ≡ here.0.now → e.1.now ≡ here.1
    → Gathers (data_of_members (members_view (take i ms)) no_members) m
    → Gathers (data_of_members (members_view (take (i + 1) ms)) no_members)
    (insert m (string_bytes e.0) e.1)
gathered_next ms i here e m below is name value before =
    let so_far = data_of_members (members_view (take i ms)) no_members in
    let cut : take (i + 1) ms ≡ take i ms ++ here ∷ [] = take_more ms i here below
    ∙ ap (λ y. take i ms ++ y ∷ []) (sym is) in
    let next : put (string_bytes e.0) (as_data e.1.now) so_far
    ≡ data_of_members (members_view (take (i + 1) ms)) no_members =
    ap (λ k. put k (as_data e.1.now) so_far) name ∙ ap (λ v. put here.0.now (as_data v) so_far) value
    ∙ sym (ap (λ ms. data_of_members (members_view ms) no_members) cut
    ∙ data_of_members-push (take i ms) here no_members) in
    subst (λ ms. Gathers ms (insert m (string_bytes e.0) e.1)) next
    (gathered_more so_far m (string_bytes e.0) e.1 before)
