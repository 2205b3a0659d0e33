-- Members of an object that are values, one after another.
use Rattle.std.proofs.Common.{◌≡◌, ℕ, ◌+◌, ◌<◌, List, [], ◌∷◌, ◌++◌, Bool, true, false, cond, length}
use Rattle.std.proofs.Common.{take, get_or, Some, option_and_then, bytes_eq, true≢false, Bor}
use Rattle.std.proofs.Common.{refl, sym, ap, subst, ◌∙◌}
use Rattle.std.specs.declared.alloc.Global.{Global}
use Rattle.std.specs.FinMap.{empty, get, get-empty, get-insert, insert}
use Rattle.std.proofs.lemmas.Cmp.{nat_list_cmp_total}
use Rattle.std.proofs.lemmas.List.{take_more}
use Rattle.std.proofs.lemmas.Map.Text.{is_eq-slice_cmp}
use Rattle.std.proofs.lemmas.Slice.Eq.{bytes_eq-Decides}
use Rattle.json.specs.Value.{members_view}
use Rattle.json.specs.declared.value.Value.{Value}
use Rattle.serde_json.specs.Data.{Data, Members, no_members, put}
use Rattle.serde_json.specs.Find.{get_member}
use Rattle.serde_json.proofs.Views.{get_member-put, get_member-put_other}
use Rattle.it_base.specs.Document.{present}
use Rattle.it_base.specs.Table.{AreMembers, Named, Stands}
use Rattle.it_base.proofs.TableLemmas.{text_cmp}
use Rattle.it_borrowed.specs.Tree.{as_data, data_of_members}
use Rattle.it_borrowed.proofs.Trees.{data_of_members-push}

module _ {X : Type 0} (P : Data → X → Type 0) where
  pub members_none : AreMembers P no_members empty
  members_none name = get-empty text_cmp name

  -- a member that is a value goes in
  members_put : (ms : Members) (m : Named X) (k : List ℕ) (d : Data) (x : X)
      → present d ≡ Some d → P d x → AreMembers P ms m → AreMembers P (put k d ms) (insert m k x)
  members_put ms m k d x there is before name =
      let at : (b : Bool) → bytes_eq name k ≡ b
      → get (insert m k x) name ≡ cond b (Some x) (get m name) =
      λ b h. get-insert nat_list_cmp_total m k x name
      ∙ ap (λ b. cond b (Some x) (get m name)) (is_eq-slice_cmp name k ∙ h) in
      elim (bytes_eq name k) as (λ b. bytes_eq name k ≡ b
      → Stands P (option_and_then present (get_member name (put k d ms)))
      (get (insert m k x) name)) [
        | true ↦ λ h.
            let same : name ≡ k = (bytes_eq-Decides name k).0 h in
            let found : option_and_then present (get_member name (put k d ms)) ≡ Some d =
            ap (option_and_then present) (ap (λ n. get_member n (put k d ms)) same
            ∙ get_member-put k d ms) ∙ there in
            rw (found, at true h) (x, refl, is)
        | false ↦ λ h.
            let other = λ (s : name ≡ k). absurd
            (true≢false (sym ((bytes_eq-Decides name k).1 s) ∙ h)) in
            rw (get_member-put_other name k d ms other, at false h) (before name)
      ] refl

  -- the next member of an object is one
  pub members_next : (ms : List (Bor (List ℕ) × Value Global)) (i : ℕ)
      (here : Bor (List ℕ) × Value Global) (k : List ℕ) (x : X) (m : Named X) → i < length ms
      → here ≡ get_or ms i here → k ≡ here.0.now
      → present (as_data here.1) ≡ Some (as_data here.1) → P (as_data here.1) x
      → AreMembers P (data_of_members (members_view (take i ms)) no_members) m
      → AreMembers P (data_of_members (members_view (take (i + 1) ms)) no_members) (insert m k x)
  members_next ms i here k x m below is name there holds before =
      let so_far = data_of_members (members_view (take i ms)) no_members in
      let cut : take (i + 1) ms ≡ take i ms ++ here ∷ [] = take_more ms i here below
      ∙ ap (λ y. take i ms ++ y ∷ []) (sym is) in
      let next : put k (as_data here.1) so_far
      ≡ data_of_members (members_view (take (i + 1) ms)) no_members =
      ap (λ n. put n (as_data here.1) so_far) name
      ∙ sym (ap (λ ms. data_of_members (members_view ms) no_members) cut
      ∙ data_of_members-push (take i ms) here no_members) in
      subst (λ ms. AreMembers P ms (insert m k x)) next
      (members_put so_far m k (as_data here.1) x there holds before)
