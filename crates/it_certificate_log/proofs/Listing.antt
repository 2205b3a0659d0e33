-- Items, one after another.
use Rattle.std.proofs.Common.{◌≡◌, ℕ, ◌^◌, ◌<◌, ◌≤◌, List, [], ◌∷◌, ◌++◌, length, map, Bor}
use Rattle.std.proofs.Common.{Bool, true, false, true≢false, IsTrue, ◌↔◌, refl, sym, ap, subst, ◌∙◌, arith, append_assoc, append-nil}
use Rattle.std.proofs.lemmas.List.{length-map}
use Rattle.std.specs.List.{AllByRecursion, flat_map}
use Rattle.it_certificate_log.specs.Counted.{counted}
use Rattle.it_certificate.proofs.OneWay.{one_content}
use Rattle.it_certificate_log.specs.Items.{IsCountedList, IsItem, IsItemList}
use Rattle.it_certificate_log.specs.inside.Begins.{AreItems, BeginsCounted, BeginsItem}
use Rattle.it_certificate_log.proofs.Counting.{one_counted}

abbrev pub AreItem : List (List ℕ) → Type 0
AreItem items = AllByRecursion IsItem items

first_begins : (item : List ℕ) (rest : List (List ℕ)) → length item < 2 ^ 16
    → BeginsCounted (flat_map counted (item ∷ rest)) item (flat_map counted rest)
first_begins item rest h = record { short = h; written = refl }

-- what comes after some of the items that bytes are is items
rest_is : (done others : List (List ℕ)) (rest : List ℕ) → AreItem done → AreItem others
    → flat_map counted done ++ rest ≡ flat_map counted others → (more : List (List ℕ)) × AreItems rest more
rest_is [] others rest all all' e = (others, record { each = all'; written = e })
rest_is (d ∷ ds) [] rest all all' e = absurd (cc)
rest_is (d ∷ ds) (o ∷ os) rest all all' e =
    let one : BeginsCounted (flat_map counted (o ∷ os)) d (flat_map counted ds ++ rest) = record {
      short = all.0.1;
      written = sym e ∙ append_assoc (counted d) (flat_map counted ds) rest;
    } in
    let same = one_counted (flat_map counted (o ∷ os)) d o (flat_map counted ds ++ rest) (flat_map counted os) one (first_begins o os all'.0.1) in
    rest_is ds os rest all.1 all'.1 same.1

none_here : (rest : List ℕ) (more : List (List ℕ)) → 0 < length rest
    → ((item after : List ℕ) → BeginsItem rest item after → ⊥) → AreItems rest more → ⊥
none_here rest [] some none are = let empty : length rest ≡ 0 = ap length are.written in omega arith
none_here rest (m ∷ ms) some none are =
    none m (flat_map counted ms) (record { some = are.each.0.0; begins = record { short = are.each.0.1; written = are.written } })

-- bytes are no items, where no item begins what comes after some
pub no_items : (bytes rest : List ℕ) (done others : List (List ℕ)) → AreItem done → bytes ≡ flat_map counted done ++ rest → 0 < length rest
    → ((item after : List ℕ) → BeginsItem rest item after → ⊥) → AreItems bytes others → ⊥
no_items bytes rest done others all e some none are =
    let left = rest_is done others rest all are.each (sym e ∙ are.written) in
    none_here rest left.0 some none left.1

same_items : (items others : List (List ℕ)) → AreItem items → AreItem others
    → flat_map counted items ≡ flat_map counted others → items ≡ others
same_items [] [] all all' e = refl
same_items [] (o ∷ os) all all' e = absurd (cc)
same_items (x ∷ xs) [] all all' e = absurd (cc)
same_items (x ∷ xs) (o ∷ os) all all' e =
    let one : BeginsCounted (flat_map counted (o ∷ os)) x (flat_map counted xs) = record { short = all.0.1; written = sym e } in
    let same = one_counted (flat_map counted (o ∷ os)) x o (flat_map counted xs) (flat_map counted os) one (first_begins o os all'.0.1) in
    let rest : xs ≡ os = same_items xs os all.1 all'.1 same.1 in
    let head : x ≡ o = same.0 in
    cc

-- an item has some bytes
pub empty_front : (bytes front rest item after : List ℕ) → BeginsCounted bytes front rest → length front ≡ 0 → BeginsItem bytes item after → ⊥
empty_front bytes front rest item after begins none is =
    let same = ap length (one_counted bytes front item rest after begins is.begins).0 in
    let some = is.some in
    omega arith

-- the list is what comes after its length
pub list_begins : (content : List ℕ) (items : List (List ℕ)) → IsCountedList content items
    → BeginsCounted content (flat_map counted items) []
list_begins content items is = record { short = is.short; written = is.written ∙ sym (append-nil (counted (flat_map counted items))) }

pub list_items : (content front rest : List ℕ) (items : List (List ℕ)) → BeginsCounted content front rest → IsCountedList content items
    → AreItems front items × (rest ≡ [])
list_items content front rest items begins is =
    let same = one_counted content front (flat_map counted items) rest [] begins (list_begins content items is) in
    (record { each = is.each; written = same.0 }, same.1)

-- more bytes follow than the list has
pub more_follow : (content front rest : List ℕ) (items : List (List ℕ)) → BeginsCounted content front rest → 0 < length rest
    → IsCountedList content items → ⊥
more_follow content front rest items begins some is =
    let none : length rest ≡ 0 = ap length (list_items content front rest items begins is).1 in omega arith

same_list : (content front rest : List ℕ) (items others : List (List ℕ)) → BeginsCounted content front rest → AreItems front items
    → IsCountedList content others → others ≡ items
same_list content front rest items others begins are is =
    let theirs = (list_items content front rest others begins is).0 in
    same_items others items theirs.each are.each (sym theirs.written ∙ are.written)

-- too few items, or too many
pub other_count : (content front rest : List ℕ) (items others : List (List ℕ)) → BeginsCounted content front rest → AreItems front items
    → ((0 < length items) × (length items ≤ 8) → ⊥) → IsCountedList content others → ⊥
other_count content front rest items others begins are wrong is =
    wrong (subst (λ (xs : List (List ℕ)). (0 < length xs) × (length xs ≤ 8)) (same_list content front rest items others begins are is) is.few)

pub list_is : (content front rest : List ℕ) (items : List (List ℕ)) → BeginsCounted content front rest → rest ≡ [] → AreItems front items
    → (0 < length items) × (length items ≤ 8) → IsCountedList content items
list_is content front rest items begins none are few = record {
  few = few;
  each = are.each;
  short = subst (λ (l : List ℕ). length l < 2 ^ 16) are.written begins.short;
  written = begins.written ∙ ap (λ (l : List ℕ). counted front ++ l) none ∙ append-nil (counted front)
      ∙ ap (λ (l : List ℕ). counted l) are.written;
}

-- a value is a list of items in at most one way
pub one_list : (value : List ℕ) (items others : List (List ℕ)) → IsItemList value items → IsItemList value others → items ≡ others
one_list value items others one two =
    let same : one.content ≡ two.content = one_content value one.content two.content one.whole two.whole in
    let theirs : IsCountedList two.content items = subst (λ (c : List ℕ). IsCountedList c items) same one.says in
    let own : AreItems (flat_map counted others) others = record { each = two.says.each; written = refl } in
    same_list two.content (flat_map counted others) [] others items (list_begins two.content others two.says) own theirs

-- how many items there are, before and after they are shown
abbrev pub AreFew : List (Bor (List ℕ)) → Type 0
AreFew xs = (0 < length xs) × (length xs ≤ 8)

abbrev pub shown : List (Bor (List ℕ)) → List (List ℕ)
shown xs = map (λ (i : Bor (List ℕ)). i.now) xs

pub not_few : (xs : List (Bor (List ℕ))) (b : Bool) → (IsTrue b ↔ AreFew xs) → b ≡ false
    → (0 < length (shown xs)) × (length (shown xs) ≤ 8) → ⊥
not_few xs b iff fails few =
    let long : length (shown xs) ≡ length xs = length-map xs (λ (i : Bor (List ℕ)). i.now) in
    let least = few.0 in
    let most = few.1 in
    true≢false (sym (subst IsTrue fails (iff.1 (omega arith, omega arith))))

pub few_shown : (xs : List (Bor (List ℕ))) (b : Bool) → (IsTrue b ↔ AreFew xs) → b ≡ true
    → (0 < length (shown xs)) × (length (shown xs) ≤ 8)
few_shown xs b iff holds =
    let long : length (shown xs) ≡ length xs = length-map xs (λ (i : Bor (List ℕ)). i.now) in
    let few = iff.0 holds in
    let least = few.0 in
    let most = few.1 in
    (omega arith, omega arith)
