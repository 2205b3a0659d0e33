-- A document has one object more than each of its members has, and a list one for each item that
-- has some.
use Rattle.std.proofs.Common.{ℕ, ◌+◌, ◌≤◌, List, [], ◌∷◌, Option, Some, None, MatchOption, length}
use Rattle.std.proofs.Common.{Ordering, arith}
use Rattle.std.specs.Ordering.{nat_cmp, match_ordering}
use Rattle.std.specs.Cmp.Lexicographic.{slice_cmp}
use Rattle.std.specs.Option.{IfSome}
use Rattle.std.proofs.lemmas.Option.{IfSome_then}
use Rattle.serde_json.specs.Data as tree
use Rattle.serde_json.specs.Data.{Data, Items, Members}
use Rattle.serde_json.specs.Find.{get, get_member}
use Rattle.it_base.specs.Document.{member_at, present}
use Rattle.it_base.specs.Parts.{IsPart}
use Rattle.it_base.specs.Sequence.{AreEach, IsList}
use Rattle.it_objects.specs.Objects.{objects, item_objects, member_objects}
use Rattle.it_objects.proofs.Options.{and_then_holds}

by_order : (order : Ordering) (P : Data → Type 0) (later here : Option Data) → IfSome later P
    → IfSome here P → IfSome (match_ordering order later here later) P
by_order Ordering.Less P later here h k = h
by_order Ordering.Equal P later here h k = k
by_order Ordering.Greater P later here h k = h

found_objects : (name : List ℕ) (most : ℕ) (ms : Members) → member_objects ms ≤ most
    → IfSome (get_member name ms) (λ v. objects v ≤ most)
found_objects name most tree.no_members h = tt
found_objects name most (tree.member other e ms) h =
    by_order (slice_cmp nat_cmp name other) (λ v. objects v ≤ most) (get_member name ms) (Some e)
    (found_objects name most ms (omega (arith, h))) (omega (arith, h))

get_objects : (name : List ℕ) (d : Data) → IfSome (get name d) (λ v. objects v + 1 ≤ objects d)
get_objects name tree.null = tt
get_objects name (tree.boolean b) = tt
get_objects name (tree.number n) = tt
get_objects name (tree.string s) = tt
get_objects name (tree.array ds) = tt
get_objects name (tree.object ms) =
    IfSome_then (get_member name ms) (found_objects name (member_objects ms) ms (omega arith))
    (λ v h. omega (arith, h))

present_objects : (most : ℕ) (v : Data) → objects v + 1 ≤ most
    → IfSome (present v) (λ v. objects v + 1 ≤ most)
present_objects most tree.null h = tt
present_objects most (tree.boolean b) h = h
present_objects most (tree.number n) h = h
present_objects most (tree.string s) h = h
present_objects most (tree.array ds) h = h
present_objects most (tree.object ms) h = h

member_within : (name : List ℕ) (d : Data)
    → IfSome (member_at name d) (λ v. objects v + 1 ≤ objects d)
member_within name d =
    and_then_holds (λ v. objects v + 1 ≤ objects d) (λ v. objects v + 1 ≤ objects d) present
    (present_objects (objects d)) (get name d) (get_objects name d)

of_member : {P : Data → Type 0} (few most : ℕ) (o : Option Data) → IfSome o (λ v. objects v + 1 ≤ most)
    → MatchOption o ⊥ P → ((v : Data) → P v → few ≤ objects v) → few + 1 ≤ most
of_member few most None h k has = absurd k
of_member few most (Some v) h k has = omega (arith, h, has v k)

module _ {X : Type 0} (P : Data → X → Type 0) where
  -- a document with a member has one object more than the member has
  pub part_objects : (name : List ℕ) (d : Data) (x : X) (few : ℕ) → IsPart P name d x
      → ((v : Data) → P v x → few ≤ objects v) → few + 1 ≤ objects d
  part_objects name d x few =
      of_member {P = λ v. P v x} few (objects d) (member_at name d) (member_within name d)

  module _ (has : (d : Data) (x : X) → P d x → 1 ≤ objects d) where
    each_objects : (items : Items) (xs : List X) → AreEach P items xs
        → length xs ≤ item_objects items
    each_objects tree.no_items [] h = omega arith
    each_objects tree.no_items (x ∷ xs) h = absurd h
    each_objects (tree.item d items) [] h = absurd h
    each_objects (tree.item d items) (x ∷ xs) h =
        omega (arith, has d x h.0, each_objects items xs h.1)

    -- a list of documents that each have an object has as many objects as elements
    pub list_objects : (d : Data) (xs : List X) → IsList P d xs → length xs ≤ objects d
    list_objects tree.null xs h = absurd h
    list_objects (tree.boolean b) xs h = absurd h
    list_objects (tree.number n) xs h = absurd h
    list_objects (tree.string s) xs h = absurd h
    list_objects (tree.array items) xs h = each_objects items xs h
    list_objects (tree.object ms) xs h = absurd h
