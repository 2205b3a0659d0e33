-- Which map an object is, as an answer.
use Rattle.std.proofs.Common.{◌≡◌, ℕ, List, [], ◌∷◌, Bool, true, false, ◌||◌, cond, Option, Some}
use Rattle.std.proofs.Common.{None, MatchOption, option_and_then, option_map, is_eq, nat_cmp}
use Rattle.std.proofs.Common.{Ordering, Less, Equal, Greater, IsTrue, bytes_eq, refl, ap, subst}
use Rattle.std.proofs.Common.{◌∙◌}
use Rattle.std.specs.Cmp.Lexicographic.{slice_cmp}
use Rattle.std.specs.FinMap.{empty, get, insert, get-empty, get-insert}
use Rattle.std.specs.List.{list_any}
use Rattle.std.specs.Ordering.{match_ordering}
use Rattle.std.proofs.lemmas.Bool.{or_left, or_parts, or_right}
use Rattle.std.proofs.lemmas.Cmp.{nat_list_cmp_total}
use Rattle.std.proofs.lemmas.Map.Text.{is_eq-slice_cmp}
use Rattle.std.proofs.lemmas.Slice.Eq.{bytes_eq-Decides}
use Rattle.serde_json.specs.Data.{Data, Members, no_members, member}
use Rattle.serde_json.specs.Find.{as_object, get_member}
use Rattle.it_base.specs.Document.{present}
use Rattle.it_base.specs.Finds.{Finds}
use Rattle.it_base.proofs.Decided.{Reads, both_of}
use Rattle.it_base.specs.Table.{AreMembers, IsTable, Named, Stands}
use Rattle.it_base.proofs.TableLemmas.{text_cmp}

abbrev names_in : Members → List (List ℕ)
names_in no_members = []
names_in (member name d ms) = name ∷ names_in ms

-- the member of this name, if there is one and it is not null
abbrev value_at : Members → List ℕ → Option Data
value_at ms name = option_and_then present (get_member name ms)

abbrev is_name : List (List ℕ) → List ℕ → Bool
is_name names name = list_any (bytes_eq name) names

abbrev with_value : {X : Type 0} → (Data → Option X) → List ℕ → Option Data → Option (Named X)
    → Option (Named X)
with_value f name None rest = rest
with_value f name (Some d) rest = option_map (λ p. insert p.1 name p.0) (both_of (f d) rest)

-- the map of the members of these names
abbrev values_at : {X : Type 0} → (Data → Option X) → Members → List (List ℕ) → Option (Named X)
values_at f ms [] = Some empty
values_at f ms (name ∷ names) = with_value f name (value_at ms name) (values_at f ms names)

-- decides `AreMembers`
abbrev members_of : {X : Type 0} → (Data → Option X) → Members → Option (Named X)
members_of f ms = values_at f ms (names_in ms)

-- decides `IsTable`
abbrev pub table_of : {X : Type 0} → (Data → Option X) → Data → Option (Named X)
table_of f d = option_and_then (members_of f) (as_object d)

other_name : (o : Ordering) (at : Option Data) (d : Data) → is_eq o ≡ false
    → match_ordering o at (Some d) at ≡ at
other_name Less at d e = refl
other_name Equal at d e = cc
other_name Greater at d e = refl

no_member_of : (ms : Members) (name : List ℕ) → is_name (names_in ms) name ≡ false
    → get_member name ms ≡ None
no_member_of no_members name e = refl
no_member_of (member other d ms) name e =
    let parts = or_parts (bytes_eq name other) (is_name (names_in ms) name) e in
    other_name (slice_cmp nat_cmp name other) (get_member name ms) d (is_eq-slice_cmp name other
    ∙ parts.0) ∙ no_member_of ms name parts.1

module _ {X : Type 0} (P : Data → X → Type 0) (f : Data → Option X) (reads : Reads P f) where
  -- at these names stands what the members are
  abbrev StandAt : Members → List (List ℕ) → Named X → Type 0
  StandAt ms names m = (name : List ℕ) → IsTrue (is_name names name)
      → Stands P (value_at ms name) (get m name)

  -- at these names stands what the members are, and at others nothing
  record AreAt (ms : Members) (names : List (List ℕ)) (m : Named X) : Type 0 where
    inside : StandAt ms names m
    outside : (name : List ℕ) → is_name names name ≡ false → get m name ≡ None

  abbrev FoundAt : Members → List (List ℕ) → Option (Named X) → Type 0
  FoundAt ms names found = MatchOption found ((m : Named X) → ¬ StandAt ms names m) (AreAt ms names)

  fewer : (ms : Members) (name : List ℕ) (names : List (List ℕ)) (m : Named X)
      → StandAt ms (name ∷ names) m → StandAt ms names m
  fewer ms name names m h other is =
      h other (or_right (bytes_eq other name) (is_name names other) is)

  here : (ms : Members) (name : List ℕ) (names : List (List ℕ)) (m : Named X)
      → StandAt ms (name ∷ names) m → Stands P (value_at ms name) (get m name)
  here ms name names m h =
      h name (or_left (bytes_eq name name) (is_name names name)
      ((bytes_eq-Decides name name).1 refl))

  no_value : (ms : Members) (name : List ℕ) (names : List (List ℕ)) (m : Named X)
      → value_at ms name ≡ None → AreAt ms names m → AreAt ms (name ∷ names) m
  no_value ms name names m missing h =
      let nothing : get m name ≡ None =
      elim (is_name names name) as (λ b. is_name names name ≡ b → get m name ≡ None) [
        | true ↦ λ e. subst (λ o. Stands P o (get m name)) missing (h.inside name e)
        | false ↦ λ e. h.outside name e
      ] refl in
      record {
        inside = λ other is.
            elim (bytes_eq other name) as (λ b. bytes_eq other name ≡ b → (b || is_name names other)
            ≡ true → Stands P (value_at ms other) (get m other)) [
              | true ↦ λ e _. let same : other ≡ name = (bytes_eq-Decides other name).0 e in
                  rw (same, missing) nothing
              | false ↦ λ e rest. h.inside other rest
            ] refl is;
        outside = λ other e. h.outside other
            (or_parts (bytes_eq other name) (is_name names other) e).1;
      }

  one_value : (ms : Members) (name : List ℕ) (names : List (List ℕ)) (m : Named X) (d : Data)
      (x : X) → value_at ms name ≡ Some d → P d x → AreAt ms names m
      → AreAt ms (name ∷ names) (insert m name x)
  one_value ms name names m d x found is h =
      let at : (other : List ℕ) (b : Bool) → bytes_eq other name ≡ b → get (insert m name x) other
      ≡ cond b (Some x) (get m other) =
      λ other b e. get-insert nat_list_cmp_total m name x other
      ∙ ap (λ c. cond c (Some x) (get m other)) (is_eq-slice_cmp other name ∙ e) in
      record {
        inside = λ other named.
            elim (bytes_eq other name) as (λ b. bytes_eq other name ≡ b → (b || is_name names other)
            ≡ true → Stands P (value_at ms other) (get (insert m name x) other)) [
              | true ↦ λ e _.
                  let same : other ≡ name = (bytes_eq-Decides other name).0 e in
                  let value : value_at ms other ≡ Some d = ap (value_at ms) same ∙ found in
                  rw (value, at other true e) (x, refl, is)
              | false ↦ λ e rest. rw (at other false e) (h.inside other rest)
            ] refl named;
        outside = λ other e. let parts = or_parts (bytes_eq other name) (is_name names other) e in
            at other false parts.0 ∙ h.outside other parts.1;
      }

  with_value-found : (ms : Members) (name : List ℕ) (names : List (List ℕ)) (d : Data)
      (value : Option X) (rest : Option (Named X)) → value_at ms name ≡ Some d → Finds (P d) value
      → FoundAt ms names rest
      → FoundAt ms (name ∷ names) (option_map (λ p. insert p.1 name p.0) (both_of value rest))
  with_value-found ms name names d None rest e none h = λ m stands. let s =
      subst (λ o. Stands P o (get m name)) e (here ms name names m stands) in none s.0 s.2
  with_value-found ms name names d (Some x) None e is h =
      λ m stands. h m (fewer ms name names m stands)
  with_value-found ms name names d (Some x) (Some m) e is h = one_value ms name names m d x e is h

  next_found : (ms : Members) (name : List ℕ) (names : List (List ℕ)) (value : Option Data)
      (rest : Option (Named X)) → value_at ms name ≡ value → FoundAt ms names rest
      → FoundAt ms (name ∷ names) (with_value f name value rest)
  next_found ms name names None None e h = λ m stands. h m (fewer ms name names m stands)
  next_found ms name names None (Some m) e h = no_value ms name names m e h
  next_found ms name names (Some d) rest e h = with_value-found ms name names d (f d) rest e
      (reads d) h

  values_at-found : (ms : Members) (names : List (List ℕ)) → FoundAt ms names (values_at f ms names)
  values_at-found ms [] = record {
    inside = λ name e. absurd (cc);
    outside = λ name e. get-empty text_cmp name;
  }
  values_at-found ms (name ∷ names) = next_found ms name names (value_at ms name)
      (values_at f ms names) refl (values_at-found ms names)

  all_members : (ms : Members) (found : Option (Named X)) → FoundAt ms (names_in ms) found
      → Finds (AreMembers P ms) found
  all_members ms None h = λ m is. h m (λ name _. is name)
  all_members ms (Some m) h = λ name.
      elim (is_name (names_in ms) name) as (λ b. is_name (names_in ms) name ≡ b
      → Stands P (value_at ms name) (get m name)) [
        | true ↦ λ e. h.inside name e
        | false ↦ λ e. rw (no_member_of ms name e) (h.outside name e)
      ] refl

  at_members : (found : Option Members) → Finds (λ m. MatchOption found ⊥ (λ ms. AreMembers P ms m))
      (option_and_then (members_of f) found)
  at_members None = λ m h. h
  at_members (Some ms) = all_members ms (members_of f ms) (values_at-found ms (names_in ms))

  pub table_reads : Reads (IsTable P) (table_of f)
  table_reads d = at_members (as_object d)
