-- Which trees are documents: those whose numbers are in range.
use Rattle.std.proofs.Common.{◌≡◌, ℕ, List, Bool, true, false, ◌&&◌, cond, Option, Some, None}
use Rattle.std.proofs.Common.{option_map, option_and_then, is_some, sym, refl, ap, ◌∙◌}
use Rattle.std.specs.Prelude.{unwrap_or}
use Rattle.json.specs.Json as json
use Rattle.serde_json.specs.Data.{Num, Data, number, array, object}
use Rattle.serde_json.specs.Data.{Items, item, Members, no_members, put}
use Rattle.serde_json.specs.Read.{number_of, of_json, of_items, of_members, read}
use Rattle.it_base.specs.Document.{IsDocument}
use Rattle.it_borrowed.specs.Tree.{data_of, data_of_items, data_of_members, no_number}
use Rattle.it_borrowed.specs.Json.{IsJson}
use Rattle.it_borrowed.specs.inside.InRange.{in_range, items_in_range, members_in_range}

abbrev only_if : {A : Type 0} → Bool → A → Option A
only_if b a = cond b (Some a) None

number_is : (o : Option Num)
    → option_map number o ≡ only_if (is_some o) (number (unwrap_or o no_number))
number_is None = refl
number_is (Some n) = refl

mapped : {A B : Type 0} (f : A → B) (b : Bool) (a : A)
    → option_map f (only_if b a) ≡ only_if b (f a)
mapped f true a = refl
mapped f false a = refl

with_item : (a b : Bool) (d : Data) (ds : Items)
    → option_and_then (λ d. option_map (item d) (only_if b ds)) (only_if a d)
    ≡ only_if (a && b) (item d ds)
with_item true b d ds = mapped (item d) b ds
with_item false b d ds = refl

with_member : (a b : Bool) (d : Data) (f : Data → Option Members) (ms : Members)
    → f d ≡ only_if b ms → option_and_then f (only_if a d) ≡ only_if (a && b) ms
with_member true b d f ms e = e
with_member false b d f ms e = refl

mutual
  pub of_json-is : (j : json.Json) → of_json j ≡ only_if (in_range j) (data_of j)
  of_json-is json.null = refl
  of_json-is (json.boolean b) = refl
  of_json-is (json.number s) = number_is (number_of s)
  of_json-is (json.string s) = refl
  of_json-is (json.array js) = ap (option_map array) (of_items-is js)
      ∙ mapped array (items_in_range js) (data_of_items js)
  of_json-is (json.object ms) = ap (option_map object) (of_members-is ms no_members)
      ∙ mapped object (members_in_range ms) (data_of_members ms no_members)

  of_items-is : (js : json.Items) → of_items js ≡ only_if (items_in_range js) (data_of_items js)
  of_items-is json.no_items = refl
  of_items-is (json.item j js) =
      ap (option_and_then (λ d. option_map (item d) (of_items js))) (of_json-is j)
      ∙ ap (λ o. option_and_then (λ d. option_map (item d) o) (only_if (in_range j) (data_of j)))
      (of_items-is js)
      ∙ with_item (in_range j) (items_in_range js) (data_of j) (data_of_items js)

  of_members-is : (ms : json.Members) (found : Members)
      → of_members ms found ≡ only_if (members_in_range ms) (data_of_members ms found)
  of_members-is json.no_members found = refl
  of_members-is (json.member k j ms) found =
      ap (option_and_then (λ d. of_members ms (put k d found))) (of_json-is j)
      ∙ with_member (in_range j) (members_in_range ms) (data_of j)
      (λ d. of_members ms (put k d found)) (data_of_members ms (put k (data_of j) found))
      (of_members-is ms (put k (data_of j) found))

pub read-in_range : (text : List ℕ) (j : json.Json) → IsJson text j → in_range j ≡ true
    → read text ≡ Some (data_of j)
read-in_range text j is e = ap (option_and_then of_json) is ∙ of_json-is j
    ∙ ap (λ b. only_if b (data_of j)) e

pub read-out_of_range : (text : List ℕ) (j : json.Json) → IsJson text j → in_range j ≡ false
    → read text ≡ None
read-out_of_range text j is e = ap (option_and_then of_json) is ∙ of_json-is j
    ∙ ap (λ b. only_if b (data_of j)) e

nothing : (o : Option json.Json) → ((j : json.Json) → o ≡ Some j → ⊥)
    → option_and_then of_json o ≡ None
nothing None none = refl
nothing (Some j) none = absurd (none j refl)

pub read-no_json : (text : List ℕ) → ((j : json.Json) → IsJson text j → ⊥) → read text ≡ None
read-no_json text none = nothing _ none

kept : (b : Bool) (a d : Data) → only_if b a ≡ Some d → d ≡ a
kept true a d e = sym (ap (λ o. unwrap_or o a) e)
kept false a d e = absurd (cc)

of_some : (o : Option json.Json) (d : Data) → option_and_then of_json o ≡ Some d
    → (j : json.Json) × (o ≡ Some j) × (d ≡ data_of j)
of_some None d e = absurd (cc)
of_some (Some j) d e = (j, refl, kept (in_range j) (data_of j) d (sym (of_json-is j) ∙ e))

-- a document has a tree
pub read-json : (text : List ℕ) (d : Data) → read text ≡ Some d
    → (j : json.Json) × IsJson text j × (d ≡ data_of j)
read-json text d e = of_some _ d e

pub no_document : (bytes : List ℕ) (d : Data) → read bytes ≡ None → IsDocument bytes d → ⊥
no_document bytes d none is = absurd (let e : None ≡ Some d = sym none ∙ is.reads in cc)
