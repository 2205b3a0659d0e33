-- Objects whose members all have a meaning.
use Rattle.std.proofs.Common.{ℕ, suc, ◌+◌, List, [], ◌∷◌, All, Bor, Ordering, Less, Equal}
use Rattle.std.proofs.Common.{Greater, Global, arith, inr, nat_cmp, refl}
use Rattle.std.specs.Cmp.Lexicographic.{slice_cmp}
use Rattle.std.specs.Ordering.{match_ordering}
use Rattle.std.proofs.lemmas.List.Elements.{All-cons, All-nil}
use Rattle.json.specs.Value.{members_view, value_view}
use Rattle.json.specs.declared.value.Value.{Value}
use Rattle.serde_json.specs.Data.{Data, Members, no_members, member, put}
use Rattle.it_borrowed.specs.Tree.{data_of, data_of_members}
use Rattle.it_findings.specs.Joined.{JoinedFrom}
use Rattle.it_findings.specs.Members.{HasMeaning, UnreadMember, entries_in}
use Rattle.it_findings.specs.declared.member_finding.MemberFinding.{MemberFinding}
use Rattle.it_findings.specs.declared.place.Place.{Place}

module _ (P : List ℕ → Type 0) where
  -- it holds of the name of each member
  abbrev EachName : Members → Type 0
  EachName no_members = Unit {0}
  EachName (member name d ms) = P name × EachName ms

  put_as : (o : Ordering) (name : List ℕ) (d : Data) (other : List ℕ) (e : Data) (ms more : Members)
      → P name → EachName (member other e ms) → EachName more
      → EachName (match_ordering o (member name d (member other e ms)) (member other d ms)
      (member other e more))
  put_as Less name d other e ms more holds each rest = (holds, each)
  put_as Equal name d other e ms more holds each rest = each
  put_as Greater name d other e ms more holds each rest = (each.0, rest)

  put_each : (name : List ℕ) (d : Data) (ms : Members) → P name → EachName ms
      → EachName (put name d ms)
  put_each name d no_members holds each = (holds, tt)
  put_each name d (member other e ms) holds each = put_as (slice_cmp nat_cmp name other) name d
      other e ms (put name d ms) holds each (put_each name d ms holds each.1)

  each_name : (ms : List (Bor (List ℕ) × Value Global)) (found : Members)
      → All (λ m. P m.0.now) ms → EachName found
      → EachName (data_of_members (members_view ms) found)
  each_name [] found all each = each
  each_name (m ∷ ms) found all each =
      each_name ms (put m.0.now (data_of (value_view m.1)) found)
      (λ k d below. all (suc k) d (omega (arith, below)))
      (put_each m.0.now (data_of (value_view m.1)) found (all 0 m (omega arith)) each)

  entries_all : (ms : Members) → EachName ms → All (λ (entry : List ℕ × Data). P entry.0) (entries_in ms)
  entries_all no_members each = All-nil (λ (entry : List ℕ × Data). P entry.0)
  entries_all (member name d ms) each = All-cons (λ (entry : List ℕ × Data). P entry.0) (name, d)
      (entries_in ms) each.0 (entries_all ms each.1)

  -- what holds of the name of each member of a list holds of that of each member of the object
  pub all_names : (ms : List (Bor (List ℕ) × Value Global)) → All (λ m. P m.0.now) ms
      → All (λ (entry : List ℕ × Data). P entry.0)
      (entries_in (data_of_members (members_view ms) no_members))
  all_names ms all = entries_all (data_of_members (members_view ms) no_members)
      (each_name ms no_members all tt)

-- where all members have a meaning, none is unread
pub none_unread : (place : Place) (entries : List (List ℕ × Data)) (n : ℕ)
    → All (λ entry. HasMeaning place entry.0) entries
    → JoinedFrom (λ (m : ℕ) (entry : List ℕ × Data) (here : List MemberFinding).
    UnreadMember place entry here) n entries []
none_unread place [] n all = refl
none_unread place (entry ∷ entries) n all = (
  [],
  [],
  refl,
  inr (λ none. none (all 0 entry (omega arith)), refl),
  none_unread place entries (n + 1) (λ k d below. all (suc k) d (omega (arith, below))),
)
