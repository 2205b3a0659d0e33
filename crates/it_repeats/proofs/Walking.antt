-- What is found in the members of an object, one member more.
use Rattle.std.proofs.Common.{◌≡◌, ◌∙◌, ℕ, ◌+◌, ◌<◌, Bool, List, [], ◌∷◌, ◌++◌, length, drop, get_or, cond}
use Rattle.std.proofs.Common.{sym, ap, append_assoc}
use Rattle.std.proofs.lemmas.List.{drop_more}
use Rattle.json.specs.Value.{members_view, value_view}
use Rattle.it_repeats.specs.Again.{is_among}
use Rattle.it_repeats.specs.Parts.{member_part}
use Rattle.it_repeats.specs.Repeats.{member_repeats, repeated, repeats_in}
use Rattle.it_repeats.specs.declared.part.Part.{Part}
use Rattle.it_repeats.specs.declared.repeated_member.RepeatedMember.{RepeatedMember}
use Rattle.it_repeats.specs.declared.repeated_member.Segment.{Segment}
use Rattle.it_repeats.specs.declared.repeated_member.Segment.TheVariants as segments
use Rattle.it_repeats.proofs.SeenNames.{Entry, names}

-- what is found in a member, which comes again or not
abbrev pub found_in : {A : Type 0} → Part → List Segment → Entry A → Bool → List RepeatedMember
found_in part place m again =
    cond again (repeated place m.0.now ∷ [])
    (repeats_in (member_part part m.0.now) (place ++ segments.Member m.0.now ∷ []) (value_view m.1))

first : {A : Type 0} (part : Part) (place : List Segment) (xs : List (Entry A)) (i : ℕ) (m : Entry A)
    → i < length xs → m ≡ get_or xs i m
    → member_repeats part place (members_view (drop i xs))
    ≡ found_in part place m (is_among (names (drop (i + 1) xs)) m.0.now)
    ++ member_repeats part place (members_view (drop (i + 1) xs))
first part place xs i m below here =
    ap (λ ys. member_repeats part place (members_view ys))
    (drop_more xs i m below ∙ ap (λ y. y ∷ drop (i + 1) xs) (sym here))

-- what was found so far, with one more, and with what is found in the members that are left
pub one_more : {A : Type 0} (part : Part) (place : List Segment) (xs : List (Entry A)) (i : ℕ)
    (m : Entry A) (found here all : List RepeatedMember) (again : Bool) (now : List Segment)
    → i < length xs → m ≡ get_or xs i m → again ≡ is_among (names (drop (i + 1) xs)) m.0.now
    → all ≡ found ++ here → now ≡ place → here ≡ found_in part now m again
    → found ++ member_repeats part place (members_view (drop i xs))
    ≡ member_repeats part place (members_view xs)
    → all ++ member_repeats part place (members_view (drop (i + 1) xs))
    ≡ member_repeats part place (members_view xs)
one_more part place xs i m found here all again now below is told joined same made so =
    let rest = member_repeats part place (members_view (drop (i + 1) xs)) in
    let mine : here ≡ found_in part place m (is_among (names (drop (i + 1) xs)) m.0.now) =
    made ∙ ap (λ p. found_in part p m again) same ∙ ap (found_in part place m) told in
    ap (λ ys. ys ++ rest) (joined ∙ ap (λ ys. found ++ ys) mine)
    ∙ append_assoc found (found_in part place m (is_among (names (drop (i + 1) xs)) m.0.now)) rest
    ∙ ap (λ ys. found ++ ys) (sym (first part place xs i m below is)) ∙ so
