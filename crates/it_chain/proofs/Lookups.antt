-- A `BTreeMap` beside the folders that it stands for.
use Rattle.std.proofs.Common.{◌≡◌, ℕ, List, [], ◌∷◌, Option, Some, None, String, Global, Ordering}
use Rattle.std.proofs.Common.{Less, Equal, Greater, string_bytes, string_cmp, nat_cmp, is_eq}
use Rattle.std.proofs.Common.{is_some, cond, false, refl, ◌∙◌}
use Rattle.std.specs.Cmp.Lexicographic.{slice_cmp}
use Rattle.std.specs.Map.{lookup}
use Rattle.std.specs.Ordering.{match_ordering}
use Rattle.std.specs.BTreeMap.{insert_entry, is_at}
use Rattle.it_chain.specs.Contents.{Contents, put, folder_in}
use Rattle.it_chain.specs.BundleView.{folders_view}

found_or : (o : Ordering) (inner : Contents) (rest found : Option Contents) → rest ≡ found
    → cond (is_eq o) (Some inner) rest ≡ match_ordering o found (Some inner) found
found_or Less inner rest found e = e
found_or Equal inner rest found e = refl
found_or Greater inner rest found e = e

pub lookup-folders_view : (name : List ℕ) (entries : List (String Global × Contents))
    → lookup (is_at (λ k. slice_cmp nat_cmp name (string_bytes k))) entries ≡ folder_in name
    (folders_view entries)
lookup-folders_view name [] = refl
lookup-folders_view name (e ∷ entries) = found_or (slice_cmp nat_cmp name (string_bytes e.0)) e.1 _
    _ (lookup-folders_view name entries)

folders_view-match_ordering : (o : Ordering) (a b c : List (String Global × Contents))
    → folders_view (match_ordering o a b c) ≡ match_ordering o (folders_view a) (folders_view b)
    (folders_view c)
folders_view-match_ordering Less a b c = refl
folders_view-match_ordering Equal a b c = refl
folders_view-match_ordering Greater a b c = refl

pub folders_view-insert_entry : (entries : List (String Global × Contents)) (name : String Global)
    (added : Contents) → folders_view (insert_entry string_cmp entries name added) ≡ put
    (string_bytes name) added (folders_view entries)
folders_view-insert_entry [] name added = refl
folders_view-insert_entry (e ∷ entries) name added =
    folders_view-match_ordering (string_cmp name e.0) _ _ _
    ∙ rw (folders_view-insert_entry entries name added)

pub none_of_is_some : {X : Type 0} (o : Option X) → is_some o ≡ false → o ≡ None
none_of_is_some None e = refl
none_of_is_some (Some x) e = cc
