-- A JSON tree has no more objects than the tokens that it was read from begin.
use Rattle.std.proofs.Common.{ℕ, zero, suc, ◌+◌, ◌≤◌, List, [], ◌∷◌, length, Option, Some, None}
use Rattle.std.proofs.Common.{option_and_then, arith}
use Rattle.std.proofs.lemmas.Option.{IfSome_then}
use Rattle.std.specs.Option.{IfSome}
use Rattle.json.specs.Token as token
use Rattle.json.specs.Token.{Token}
use Rattle.json.specs.Json as json
use Rattle.json.specs.Json.{Json, Items, Members, Parse, parse_map, after_end_array, read_key}
use Rattle.json.specs.Json.{items_step, members_step, items, members, value_with, value, if_last}
use Rattle.it_objects.proofs.Counts.{begun, tree_objects, tree_item_objects, tree_member_objects}
use Rattle.it_objects.proofs.Options.{map_holds, and_then_holds}

-- what was read has no more objects than are begun in all, without those that are begun after it
abbrev IsWithin : {A : Type 0} → (A → ℕ) → ℕ → A × List Token → Type 0
IsWithin has most p = has p.0 + begun p.1 ≤ most

abbrev Reads : {A : Type 0} → (A → ℕ) → Parse A → Type 0
Reads has parse = (ts : List Token) → IfSome (parse ts) (IsWithin has (begun ts))

-- what is made of what was read has so many objects more
with_more : {A B : Type 0} (has : A → ℕ) (made : B → ℕ) (f : A → B) (more most : ℕ)
    → ((a : A) → made (f a) ≤ more + has a) → (o : Option (A × List Token))
    → IfSome o (IsWithin has most) → IfSome (parse_map f o) (IsWithin made (more + most))
with_more has made f more most adds =
    map_holds (IsWithin has most) (IsWithin made (more + most)) (λ p. (f p.0, p.1))
    (λ p h. omega (arith, h, adds p.0))

end_begins : (ts : List Token) → IfSome (after_end_array ts) (λ rest. begun rest ≤ begun ts)
end_begins [] = tt
end_begins (token.begin_object ∷ ts) = tt
end_begins (token.end_object ∷ ts) = tt
end_begins (token.begin_array ∷ ts) = tt
end_begins (token.end_array ∷ ts) = omega arith
end_begins (token.key s ∷ ts) = tt
end_begins (token.string s ∷ ts) = tt
end_begins (token.number s ∷ ts) = tt
end_begins (token.boolean b ∷ ts) = tt
end_begins (token.null ∷ ts) = tt
end_begins (token.bad ∷ ts) = tt

key_begins : Reads (λ key. 0) read_key
key_begins [] = tt
key_begins (token.begin_object ∷ ts) = tt
key_begins (token.end_object ∷ ts) = omega arith
key_begins (token.begin_array ∷ ts) = tt
key_begins (token.end_array ∷ ts) = tt
key_begins (token.key s ∷ ts) = omega arith
key_begins (token.string s ∷ ts) = tt
key_begins (token.number s ∷ ts) = tt
key_begins (token.boolean b ∷ ts) = tt
key_begins (token.null ∷ ts) = tt
key_begins (token.bad ∷ ts) = tt

-- a value, and then more that is joined to it
module _ {A : Type 0} (has : A → ℕ) (parse : Parse Json) (reads : Reads tree_objects parse)
    (join : Json → A → A) (adds : (j : Json) (a : A) → has (join j a) ≤ tree_objects j + has a)
    (more : Parse A) (again : Reads has more) where
  joined : Reads has (λ ts. option_and_then (λ p. parse_map (join p.0) (more p.1)) (parse ts))
  joined ts =
      and_then_holds (IsWithin tree_objects (begun ts)) (IsWithin has (begun ts)) _
      (λ p first. map_holds (IsWithin has (begun p.1)) (IsWithin has (begun ts)) _
      (λ q rest. omega (arith, first, rest, adds p.0 q.0)) (more p.1) (again p.1)) (parse ts)
      (reads ts)

module _ (parse : Parse Json) (reads : Reads tree_objects parse) where
  item_begins : (more : Parse Items) → Reads tree_item_objects more → (ts : List Token)
      → (o : Option (List Token)) → IfSome o (λ rest. begun rest ≤ begun ts)
      → IfSome (items_step parse more ts o) (IsWithin tree_item_objects (begun ts))
  item_begins more again ts (Some rest) h = omega (arith, h)
  item_begins more again ts None h =
      joined tree_item_objects parse reads json.item (λ j js. omega arith) more again ts

  items_begin : (n : ℕ) → Reads tree_item_objects (items parse n)
  unfolding items
  items_begin zero ts = tt
  items_begin (suc n) ts =
      item_begins (items parse n) (items_begin n) ts (after_end_array ts) (end_begins ts)

  member_begins : (more : Parse Members) → Reads tree_member_objects more
      → (key : Option (List ℕ)) → Reads tree_member_objects (members_step parse more key)
  member_begins more again None ts = omega arith
  member_begins more again (Some k) ts =
      joined tree_member_objects parse reads (json.member k) (λ j ms. omega arith) more again ts

  members_begin : (n : ℕ) → Reads tree_member_objects (members parse n)
  unfolding members
  members_begin zero ts = tt
  members_begin (suc n) ts =
      and_then_holds (IsWithin (λ key. 0) (begun ts)) (IsWithin tree_member_objects (begun ts)) _
      (λ p key. IfSome_then (members_step parse (members parse n) p.0 p.1)
      (member_begins (members parse n) (members_begin n) p.0 p.1)
      (λ q h. omega (arith, key, h))) (read_key ts) (key_begins ts)

with_begins : (a : Parse Items) (o : Parse Members) → Reads tree_item_objects a
    → Reads tree_member_objects o → Reads tree_objects (value_with a o)
with_begins a o h k [] = tt
with_begins a o h k (token.begin_object ∷ ts) =
    with_more tree_member_objects tree_objects json.object 1 (begun ts) (λ ms. omega arith) (o ts)
    (k ts)
with_begins a o h k (token.end_object ∷ ts) = tt
with_begins a o h k (token.begin_array ∷ ts) =
    with_more tree_item_objects tree_objects json.array 0 (begun ts) (λ js. omega arith) (a ts)
    (h ts)
with_begins a o h k (token.end_array ∷ ts) = tt
with_begins a o h k (token.key s ∷ ts) = tt
with_begins a o h k (token.string s ∷ ts) = omega arith
with_begins a o h k (token.number s ∷ ts) = omega arith
with_begins a o h k (token.boolean b ∷ ts) = omega arith
with_begins a o h k (token.null ∷ ts) = omega arith
with_begins a o h k (token.bad ∷ ts) = tt

value_begins : (depth : ℕ) → Reads tree_objects (value depth)
unfolding value
value_begins zero = with_begins (λ ts. None) (λ ts. None) (λ ts. tt) (λ ts. tt)
value_begins (suc depth) =
    with_begins _ _ (λ ts. items_begin (value depth) (value_begins depth) (length ts) ts)
    (λ ts. members_begin (value depth) (value_begins depth) (length ts) ts)

last_begins : (most : ℕ) (j : Json) (ts : List Token) → IsWithin tree_objects most (j, ts)
    → IfSome (if_last j ts) (λ j. tree_objects j ≤ most)
last_begins most j [] h = omega (arith, h)
last_begins most j (t ∷ ts) h = tt

-- the tree that the tokens are has no more objects than they begin
pub parsed_begins : (depth : ℕ) (ts : List Token)
    → IfSome (option_and_then (λ p. if_last p.0 p.1) (value depth ts))
    (λ j. tree_objects j ≤ begun ts)
parsed_begins depth ts =
    and_then_holds (IsWithin tree_objects (begun ts)) (λ j. tree_objects j ≤ begun ts) _
    (λ p h. last_begins (begun ts) p.0 p.1 h) (value depth ts) (value_begins depth ts)
