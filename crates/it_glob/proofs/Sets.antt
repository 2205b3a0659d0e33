-- The reading of a pattern's text, one item after another.
use Rattle.std.proofs.Common.{◌≡◌, ℕ, zero, suc, ◌+◌, Bool, true, false, cond, List, [], ◌∷◌, ◌++◌}
use Rattle.std.proofs.Common.{Option, Some, None, option_map, unwrap_or, take, drop, not, eqb, ltb}
use Rattle.std.proofs.Common.{arith, refl, ap, sym, ◌∙◌, append_assoc, drop-drop}
use Rattle.std.specs.List.{position}
use Rattle.std.proofs.lemmas.Bool.Decides.{nat_tests}
use Rattle.std.proofs.lemmas.Grind.{common_steps}
use Rattle.it_glob.specs.Pattern.{items_after, item_at, plain_item, set_at, set_of, is_close}
use Rattle.it_glob.specs.declared.item.Item.{Item}
use Rattle.it_glob.specs.declared.item.Item.TheVariants.{OneOf}

-- what follows the first n characters
items_after-drop : (n : ℕ) (cs : List ℕ) → items_after n cs ≡ items_after 0 (drop n cs)
items_after-drop zero cs = refl
items_after-drop (suc n) [] = refl
items_after-drop (suc n) (c ∷ cs) = items_after-drop n cs

-- one more item
pub read_more : (items : List Item) (c : ℕ) (cs all : List ℕ) (item : Item) (taken : ℕ)
    → (item, taken) ≡ item_at c cs → items ++ items_after 0 (c ∷ cs) ≡ items_after 0 all
    → (items ++ item ∷ []) ++ items_after 0 (drop taken cs) ≡ items_after 0 all
read_more items c cs all item taken e before =
    append_assoc items (item ∷ []) (items_after 0 (drop taken cs))
    ∙ ap (λ l. items ++ item ∷ l) (sym (items_after-drop taken cs))
    ∙ ap (λ p. items ++ p.0 ∷ items_after p.1 cs) e ∙ before

-- a list without a ] has none further on
none_in_rest : (c : ℕ) (cs : List ℕ) → position is_close (c ∷ cs) ≡ None
    → position is_close cs ≡ None
none_in_rest c cs e = grind (arith, common_steps)

none_after : (n : ℕ) (cs : List ℕ) → position is_close cs ≡ None → position is_close (drop n cs)
    ≡ None
none_after zero cs e = e
none_after (suc n) [] e = e
none_after (suc n) (c ∷ cs) e = none_after n cs (none_in_rest c cs e)

-- where no ] follows, no set begins
no_body : (negated : Bool) (cs : List ℕ) → position is_close (drop 1 cs) ≡ None
    → set_of (negated, cs) ≡ None
no_body negated cs e = ap
    (λ o. option_map (λ n. (OneOf negated (take n cs), cond negated (n + 2) (n + 1)))
    (option_map (λ n. n + 1) o)) e

no_set : (cs : List ℕ) → position is_close (drop 1 cs) ≡ None → set_at cs ≡ None
no_set [] e = refl
no_set (x ∷ xs) e =
    elim (eqb x 33) as (λ b. set_of (cond b (true, xs) (false, x ∷ xs)) ≡ None) [
      | true ↦ no_body true xs (none_after 1 xs e)
      | false ↦ no_body false (x ∷ xs) e
    ]

pub item_at-closed : (c : ℕ) (cs : List ℕ) → position is_close (drop 1 cs) ≡ None
    → item_at c cs ≡ (plain_item c, 0)
item_at-closed c cs e =
    let plain : Item × ℕ = (plain_item c, 0) in
    rw (no_set cs e) (elim (eqb c 91) as (λ b. cond b plain plain ≡ plain) [
      | true ↦ refl
      | false ↦ refl
    ])

-- where a [ begins no set, no ] follows
no_body_follows : (negated : Bool) (cs : List ℕ) (item : Item)
    → (unwrap_or {T = Item × ℕ} (set_of (negated, cs)) (item, 0)).1 ≡ 0
    → position is_close (drop 1 cs) ≡ None
no_body_follows negated cs item e = go negated (position is_close (drop 1 cs)) e
  where
    go : (negated : Bool) (o : Option ℕ)
        → (unwrap_or {T = Item × ℕ}
        (option_map (λ n. (OneOf negated (take n cs), cond negated (n + 2) (n + 1)))
        (option_map (λ n. n + 1) o)) (item, 0)).1 ≡ 0
        → o ≡ None
    go negated None e = refl
    go true (Some n) e = absurd (omega arith)
    go false (Some n) e = absurd (omega arith)

closed_after : (cs : List ℕ) → (item_at 91 cs).1 ≡ 0 → position is_close (drop 2 cs) ≡ None
closed_after [] e = refl
closed_after (x ∷ xs) e = go (eqb x 33) e
  where
    go : (b : Bool) → (unwrap_or {T = Item × ℕ} (set_of (cond b (true, xs) (false, x ∷ xs)))
        (plain_item 91, 0)).1 ≡ 0 → position is_close (drop 1 xs) ≡ None
    go true e = no_body_follows true xs (plain_item 91) e
    go false e = none_after 1 xs (no_body_follows false (x ∷ xs) (plain_item 91) e)

pub closed_from_item : (c taken : ℕ) (item : Item) (cs : List ℕ) → c ≡ 91 → taken ≡ 0
    → (item, taken) ≡ item_at c cs
    → position is_close (drop 2 (drop taken cs)) ≡ None
closed_from_item c taken item cs bracket none is =
    let width : taken ≡ (item_at c cs).1 = ap (λ p. p.1) is in
    rw none (closed_after cs (ap (λ x. (item_at x cs).1) (sym bracket) ∙ sym width ∙ none))

-- and none follows after further characters
pub still_closed : (n : ℕ) (cs : List ℕ) → position is_close (drop 1 cs) ≡ None
    → position is_close (drop 2 (drop n cs)) ≡ None
still_closed n cs e =
    let same : drop 2 (drop n cs) ≡ drop (n + 1) (drop 1 cs) =
    drop-drop 2 n cs ∙ ap (λ k. drop k cs) (omega arith) ∙ sym (drop-drop (n + 1) 1 cs) in
    rw same (none_after (n + 1) (drop 1 cs) e)

-- what a test that failed says
pub bracket_from_test : (c : ℕ) → not (eqb c 91) ≡ false → c ≡ 91
bracket_from_test c e = grind (arith, nat_tests)

pub none_from_test : (n : ℕ) → ltb 0 n ≡ false → n ≡ 0
none_from_test n e = grind (arith, nat_tests)
