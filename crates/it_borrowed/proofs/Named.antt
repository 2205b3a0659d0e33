-- Members of an object, put under their names one after another.
use Rattle.std.proofs.Common.{◌≡◌, ℕ, ◌+◌, ◌<◌, List, [], ◌∷◌, ◌++◌, length, take, get_or, Bor}
use Rattle.std.proofs.Common.{Ordering, Less, Equal, Greater, nat_cmp, refl, sym, ap, ◌∙◌}
use Rattle.std.proofs.lemmas.List.{take_more}
use Rattle.std.specs.BTreeMap.{insert_entry}
use Rattle.std.specs.Cmp.Lexicographic.{slice_cmp}
use Rattle.std.specs.Ordering.{match_ordering}
use Rattle.std.specs.declared.alloc.Global.{Global}
use Rattle.json.specs.Value.{members_view}
use Rattle.json.specs.declared.value.Value.{Value}
use Rattle.serde_json.specs.Data.{no_members, put}
use Rattle.it_borrowed.specs.Tree.{as_data, data_of_members}
use Rattle.it_borrowed.specs.NamedMembers.{NamedMember, members_in}
use Rattle.it_borrowed.proofs.Trees.{data_of_members-push}

abbrev pub name_cmp : Bor (List ℕ) → Bor (List ℕ) → Ordering
name_cmp x y = slice_cmp nat_cmp x.now y.now

members_in-match_ordering : (o : Ordering) (a b c : List NamedMember)
    → members_in (match_ordering o a b c)
    ≡ match_ordering o (members_in a) (members_in b) (members_in c)
members_in-match_ordering Less a b c = refl
members_in-match_ordering Equal a b c = refl
members_in-match_ordering Greater a b c = refl

members_in-insert : (es : List NamedMember) (k : Bor (List ℕ)) (v : Bor (Value Global))
    → members_in (insert_entry name_cmp es k v) ≡ put k.now (as_data v.now) (members_in es)
members_in-insert [] k v = refl
members_in-insert (e ∷ es) k v = members_in-match_ordering (name_cmp k e.0) _ _ _
    ∙ rw (members_in-insert es k v)

-- one more member goes in
pub one_more_named : (es : List NamedMember) (k : Bor (List ℕ)) (v : Bor (Value Global))
    (ms : List (Bor (List ℕ) × Value Global)) (i : ℕ) (m : Bor (List ℕ) × Value Global)
    → i < length ms → m ≡ get_or ms i m
    → members_in es ≡ data_of_members (members_view (take i ms)) no_members
    → k.now ≡ m.0.now → v.now ≡ m.1
    → members_in (insert_entry name_cmp es k v)
    ≡ data_of_members (members_view (take (i + 1) ms)) no_members
one_more_named es k v ms i m below here before named is =
    let cut : take (i + 1) ms ≡ take i ms ++ m ∷ [] = take_more ms i m below
    ∙ ap (λ y. take i ms ++ y ∷ []) (sym here) in
    members_in-insert es k v
    ∙ rw (named, is, before, cut) (sym (data_of_members-push (take i ms) m no_members))
