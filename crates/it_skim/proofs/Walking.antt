-- Members of an object, read one after another.
use Rattle.std.proofs.Common.{◌≡◌, ◌∙◌, ℕ, ◌-◌, ◌<◌, ◌≤◌, List, length, Bool, true, false, cond}
use Rattle.std.proofs.Common.{Option, Some, None, bytes_eq, refl, ap, arith}
use Rattle.json.specs.Find.{get_member, later_or}
use Rattle.json.specs.Json.{Json, Members, no_members, member, members, parse_map, read_key}
use Rattle.json.specs.Json.{value}
use Rattle.json.specs.Token.{Token}
use Rattle.json.proofs.Grammar.{members_end, members_fail, members_more, members_no_key}
use Rattle.json.proofs.Grammar.{read_key-shorter}
use Rattle.it_skim.specs.inside.Reading.{below}

twice : {A B C : Type 0} (f : B → C) (g : A → B) (r : Option (A × List Token))
    → parse_map f (parse_map g r) ≡ parse_map (λ a. f (g a)) r
twice f g None = refl
twice f g (Some p) = refl

same : {A : Type 0} (r : Option (A × List Token)) → r ≡ parse_map (λ a. a) r
same None = refl
same (Some p) = refl

or_none : (x : Option Json) → x ≡ later_or x None
or_none None = refl
or_none (Some j) = refl

later : (x : Option Json) (b : Bool) (j : Json) (seen : Option Json)
    → later_or (later_or x (cond b (Some j) None)) seen ≡ later_or x (cond b (Some j) seen)
later None true j seen = refl
later None false j seen = refl
later (Some i) b j seen = refl

-- the members that were read stand before those that are left, and the last of the name among them
-- is this
pub record SoFar (name : List ℕ) (old now : List Token) (seen : Option Json) : Type 0 where
  pub turns : ℕ
  pub before : Members → Members
  pub enough : length now ≤ turns
  pub whole : members (value below) (length old) old
      ≡ parse_map before (members (value below) turns now)
  pub last : (ms : Members) → get_member name (before ms) ≡ later_or (get_member name ms) seen

pub none_so_far : (name : List ℕ) (old : List Token) → SoFar name old old None
none_so_far name old = record {
  turns = length old;
  before = λ ms. ms;
  enough = omega arith;
  whole = same _;
  last = λ ms. or_none _;
}

module _ (name : List ℕ) (old ts : List Token) (seen : Option Json)
    (so_far : SoFar name old ts seen) where
  -- one more member
  pub one_more : (k : List ℕ) (s r : List Token) (j : Json) → read_key ts ≡ Some (Some k, s)
      → value below s ≡ Some (j, r) → length r < length s
      → SoFar name old r (cond (bytes_eq k name) (Some j) seen)
  one_more k s r j key reads less =
      let shorter = read_key-shorter ts (Some k) s key in
      let n = so_far.turns in
      let more : members (value below) n ts
      ≡ parse_map (member k j) (members (value below) (n - 1) r) =
      members_more (value below) n k ts s r j (omega (arith, so_far.enough, shorter)) key reads in
      record {
        turns = n - 1;
        before = λ ms. so_far.before (member k j ms);
        enough = omega (arith, so_far.enough, shorter, less);
        whole = so_far.whole ∙ ap (parse_map so_far.before) more ∙ twice _ _ _;
        last = λ ms. so_far.last (member k j ms) ∙ later (get_member name ms) _ j seen;
      }

  -- no key and no end comes, or no value after a key
  pub no_more : read_key ts ≡ None → members (value below) (length old) old ≡ None
  no_more none = so_far.whole
      ∙ ap (parse_map so_far.before) (members_no_key (value below) so_far.turns ts none)

  pub no_value : (k : List ℕ) (s : List Token) → read_key ts ≡ Some (Some k, s)
      → value below s ≡ None → members (value below) (length old) old ≡ None
  no_value k s key none = so_far.whole
      ∙ ap (parse_map so_far.before) (members_fail (value below) so_far.turns k ts s key none)

  -- the end comes
  pub all_read : (r : List Token) → read_key ts ≡ Some (None, r)
      → (ms : Members) × (members (value below) (length old) old ≡ Some (ms, r))
      × (get_member name ms ≡ seen)
  all_read r end = (
    so_far.before no_members,
    so_far.whole ∙ ap (parse_map so_far.before)
        (members_end (value below) so_far.turns ts r so_far.enough end),
    so_far.last no_members,
  )
