-- Names in tables, and members of objects.
use Rattle.std.proofs.Common.{◌≡◌, ℕ, zero, suc, List, [], ◌∷◌, ◌++◌, map}
use Rattle.std.proofs.Common.{Option, Some, Any, Contains, Bor, option_map, Ordering, Less, Equal}
use Rattle.std.proofs.Common.{Greater, nat_cmp, is_eq, is_some, true, refl, arith, ◌∙◌}
use Rattle.std.specs.Cmp.Lexicographic.{slice_cmp}
use Rattle.std.proofs.lemmas.Map.Text.{is_eq-slice_cmp}
use Rattle.std.proofs.lemmas.Slice.Eq.{bytes_eq-Decides}
use Rattle.std.specs.Ordering.{match_ordering}
use Rattle.serde_json.specs.Data.{Data, object}
use Rattle.serde_json.specs.Find.{get_member}
use Rattle.it_borrowed.specs.Tree.{as_data}
use Rattle.it_borrowed.specs.NamedMembers.{NamedMember, members_in}
use Rattle.it_findings.specs.MeantName.{meant_name}
use Rattle.it_findings.specs.MemberNames.{known_names, read_names}
use Rattle.it_member_notes.specs.UnreadMembers.{HasUnread}
use Rattle.it_findings.specs.declared.place.Place.{Place}
use Rattle.it_member_notes.specs.declared.unread_member.UnreadMember.{UnreadMember}

-- a name that stands in a table is one of its texts
pub any_named : (names : List (Bor (List ℕ))) (name : List ℕ)
    → Contains (map (λ n. n.now) names) name → Any (λ n. n.now ≡ name) names
any_named [] name (k, below, at) = absurd (omega (arith, below))
any_named (n ∷ names) name (zero, below, at) = (zero, n, omega arith, refl, at)
any_named (n ∷ names) name (suc k, below, at) =
    let rest = any_named names name (k, omega (arith, below), at) in
    (suc rest.0, rest.1, omega (arith, rest.2), rest.3, rest.4)

some_either : (o : Ordering) (d : Data) (rest : Option Data) → is_some rest ≡ true
    → is_some (match_ordering o rest (Some d) rest) ≡ true
some_either Less d rest e = e
some_either Equal d rest e = refl
some_either Greater d rest e = e

some_equal : (o : Ordering) (d : Data) (rest : Option Data) → is_eq o ≡ true
    → is_some (match_ordering o rest (Some d) rest) ≡ true
some_equal Less d rest e = absurd (cc)
some_equal Equal d rest e = refl
some_equal Greater d rest e = absurd (cc)

-- an object has each of the members that it is made of
pub member_among : (before : List NamedMember) (e : NamedMember) (after : List NamedMember)
    → is_some (get_member e.0.now (members_in (before ++ e ∷ after))) ≡ true
member_among [] e after =
    some_equal (slice_cmp nat_cmp e.0.now e.0.now) (as_data e.1.now) _
    (is_eq-slice_cmp e.0.now e.0.now ∙ (bytes_eq-Decides e.0.now e.0.now).1 refl)
member_among (x ∷ before) e after =
    some_either (slice_cmp nat_cmp e.0.now x.0.now) (as_data x.1.now) _
    (member_among before e after)

-- what makes a note on a member of an object true
pub unread_note : (entries before after : List NamedMember) (e : NamedMember) (place : Place)
    (note : UnreadMember) → entries ≡ before ++ e ∷ after → note.place ≡ place
    → note.name ≡ e.0.now
    → ¬ Contains (read_names place) e.0.now
    → ¬ Contains (known_names place) e.0.now
    → option_map (λ near. near.now) note.close ≡ meant_name place e.0.now
    → HasUnread (object (members_in entries)) note × (note.place ≡ place)
unread_note entries before after e place note all at named no_read no_known close = (
  record {
    has = rw (named, all) (member_among before e after);
    not_read = rw (at, named) no_read;
    not_known = rw (at, named) no_known;
    close = rw (at, named) close;
  },
  at,
)
