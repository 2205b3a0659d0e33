-- A document has no more objects than the JSON tree that it was made from.
use Rattle.std.proofs.Common.{ℕ, ◌+◌, ◌≤◌, List, Option, Some, None, Ordering, arith}
use Rattle.std.specs.Prelude.{⊤}
use Rattle.std.specs.Ordering.{nat_cmp, match_ordering}
use Rattle.std.specs.Cmp.Lexicographic.{slice_cmp}
use Rattle.std.specs.Option.{IfSome}
use Rattle.std.proofs.lemmas.Option.{IfSome_then}
use Rattle.json.specs.Json as json
use Rattle.serde_json.specs.Data as tree
use Rattle.serde_json.specs.Data.{Data, Members, put}
use Rattle.serde_json.specs.Read.{number_of, of_json, of_items, of_members}
use Rattle.it_objects.specs.Objects.{objects, item_objects, member_objects}
use Rattle.it_objects.proofs.Counts.{tree_objects, tree_item_objects, tree_member_objects}
use Rattle.it_objects.proofs.Options.{map_holds, and_then_holds}

-- of two values of one name only the later one stays
by_order : (order : Ordering) (most : ℕ) (first same later : Members)
    → member_objects first ≤ most → member_objects same ≤ most → member_objects later ≤ most
    → member_objects (match_ordering order first same later) ≤ most
by_order Ordering.Less most first same later h k l = h
by_order Ordering.Equal most first same later h k l = k
by_order Ordering.Greater most first same later h k l = l

put_objects : (name : List ℕ) (d : Data) (ms : Members)
    → member_objects (put name d ms) ≤ objects d + member_objects ms
put_objects name d tree.no_members = omega arith
put_objects name d (tree.member other e ms) =
    by_order (slice_cmp nat_cmp name other) (objects d + (objects e + member_objects ms))
    (tree.member name d (tree.member other e ms)) (tree.member other d ms)
    (tree.member other e (put name d ms)) (omega arith) (omega arith)
    (omega (arith, put_objects name d ms))

any_number : {A : Type 0} (o : Option A) → IfSome o (λ n. ⊤)
any_number None = tt
any_number (Some n) = tt

mutual
  pub data_objects : (j : json.Json) → IfSome (of_json j) (λ d. objects d ≤ tree_objects j)
  data_objects json.null = omega arith
  data_objects (json.boolean b) = omega arith
  data_objects (json.number s) =
      map_holds (λ n. ⊤) (λ d. objects d ≤ 0) tree.number (λ n any. omega arith) (number_of s)
      (any_number (number_of s))
  data_objects (json.string s) = omega arith
  data_objects (json.array js) =
      map_holds (λ ds. item_objects ds ≤ tree_item_objects js)
      (λ d. objects d ≤ tree_item_objects js) tree.array (λ ds h. h) (of_items js)
      (items_objects js)
  data_objects (json.object ms) =
      map_holds (λ found. member_objects found ≤ tree_member_objects ms + 0)
      (λ d. objects d ≤ 1 + tree_member_objects ms) tree.object (λ found h. omega (arith, h))
      (of_members ms tree.no_members) (members_objects ms tree.no_members)

  items_objects : (js : json.Items)
      → IfSome (of_items js) (λ ds. item_objects ds ≤ tree_item_objects js)
  items_objects json.no_items = omega arith
  items_objects (json.item j js) =
      and_then_holds (λ d. objects d ≤ tree_objects j)
      (λ ds. item_objects ds ≤ tree_objects j + tree_item_objects js) _
      (λ d h. map_holds (λ ds. item_objects ds ≤ tree_item_objects js)
      (λ ds. item_objects ds ≤ tree_objects j + tree_item_objects js) (tree.item d)
      (λ ds k. omega (arith, h, k)) (of_items js) (items_objects js)) (of_json j) (data_objects j)

  members_objects : (ms : json.Members) (found : Members) → IfSome (of_members ms found)
      (λ all. member_objects all ≤ tree_member_objects ms + member_objects found)
  members_objects json.no_members found = omega arith
  members_objects (json.member name j ms) found =
      and_then_holds (λ d. objects d ≤ tree_objects j)
      (λ all. member_objects all
      ≤ (tree_objects j + tree_member_objects ms) + member_objects found) _
      (λ d h. IfSome_then (of_members ms (put name d found))
      (members_objects ms (put name d found)) (λ all k. omega (arith, h, k, put_objects name d found)))
      (of_json j) (data_objects j)
