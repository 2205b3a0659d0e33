-- Codes of lists of trees and of members: lists of marks, from which they can be read back.
use Rattle.std.specs.Prelude.{◌≡◌, ℕ, ℤ, pos, Bool, false, List, [], ◌∷◌, refl}
use base.Stored.{coded_via}
use Rattle.std.specs.Coded.{Coded, coded×, coded_ℕ, coded_ℤ, coded_bool, coded_list}
use Rattle.std.proofs.Common.{ap, sym, ◌∙◌}
use Rattle.it_base.specs.Json.{Json, null, flag, whole, text, items, members, other, Items}
use Rattle.it_base.specs.Json.{no_items, item, Fields, no_fields, field}

-- the kind of a tree, a flag, a number and a text
abbrev pub Mark : Type 0
Mark = ℕ × (Bool × (ℤ × List ℕ))

abbrev pub mark : ℕ → Mark
mark n = (n, (false, (pos 0, [])))

abbrev pub leaf : Json → Mark
leaf null = mark 0
leaf (flag b) = (1, (b, (pos 0, [])))
leaf (whole n) = (2, (false, (n, [])))
leaf (text s) = (3, (false, (pos 0, s)))
leaf (items ds) = mark 4
leaf (members ms) = mark 5
leaf other = mark 6

abbrev mutual
  pub inner : Json → List Mark → List Mark
  inner (items ds) more = spelled_items ds more
  inner (members ms) more = spelled_fields ms more
  inner d more = more

  pub spelled_items : Items → List Mark → List Mark
  spelled_items no_items more = mark 7 ∷ more
  spelled_items (item d ds) more = mark 8 ∷ leaf d ∷ inner d (spelled_items ds more)

  pub spelled_fields : Fields → List Mark → List Mark
  spelled_fields no_fields more = mark 7 ∷ more
  spelled_fields (field k d ms) more =
      (8, (false, (pos 0, k))) ∷ leaf d ∷ inner d (spelled_fields ms more)

abbrev pub spelled : Json → List Mark → List Mark
spelled d more = leaf d ∷ inner d more

head_of : (x y : Mark) (xs ys : List Mark) → x ∷ xs ≡ y ∷ ys → x ≡ y
head_of x y xs ys e = cc

tail_of : (x y : Mark) (xs ys : List Mark) → x ∷ xs ≡ y ∷ ys → xs ≡ ys
tail_of x y xs ys e = cc

is_null : (d : Json) → (leaf d).0 ≡ 0 → d ≡ null
is_null null h = refl
is_null d h = absurd (cc)

is_flag : (b : Bool) (d : Json) → leaf d ≡ leaf (flag b) → d ≡ flag b
is_flag b (flag c) h = ap (λ (m : Mark). flag m.1.0) h
is_flag b d h = absurd (let e = ap (λ (m : Mark). m.0) h in cc)

is_whole : (n : ℤ) (d : Json) → leaf d ≡ leaf (whole n) → d ≡ whole n
is_whole n (whole m) h = ap (λ (m : Mark). whole m.1.1.0) h
is_whole n d h = absurd (let e = ap (λ (m : Mark). m.0) h in cc)

is_text : (s : List ℕ) (d : Json) → leaf d ≡ leaf (text s) → d ≡ text s
is_text s (text t) h = ap (λ (m : Mark). text m.1.1.1) h
is_text s d h = absurd (let e = ap (λ (m : Mark). m.0) h in cc)

is_items : (d : Json) → (leaf d).0 ≡ 4 → (ds : Items) × (d ≡ items ds)
is_items (items ds) h = (ds, refl)
is_items d h = absurd (cc)

is_members : (d : Json) → (leaf d).0 ≡ 5 → (ms : Fields) × (d ≡ members ms)
is_members (members ms) h = (ms, refl)
is_members d h = absurd (cc)

is_other : (d : Json) → (leaf d).0 ≡ 6 → d ≡ other
is_other other h = refl
is_other d h = absurd (cc)

-- two spellings begin with the same value, and have the same rest
abbrev Front : {A : Type 0} → A → A → List Mark → List Mark → Type 0
Front d e x y = (d ≡ e) × (x ≡ y)

mutual
  told : (d e : Json) (x y : List Mark) → spelled d x ≡ spelled e y → Front d e x y
  told null e x y h =
      let is : e ≡ null = is_null e (ap (λ (m : Mark). m.0) (sym (head_of _ _ _ _ h))) in
      (sym is, tail_of _ _ _ _ h ∙ ap (λ f. inner f y) is)
  told (flag b) e x y h =
      let is : e ≡ flag b = is_flag b e (sym (head_of _ _ _ _ h)) in
      (sym is, tail_of _ _ _ _ h ∙ ap (λ f. inner f y) is)
  told (whole n) e x y h =
      let is : e ≡ whole n = is_whole n e (sym (head_of _ _ _ _ h)) in
      (sym is, tail_of _ _ _ _ h ∙ ap (λ f. inner f y) is)
  told (text s) e x y h =
      let is : e ≡ text s = is_text s e (sym (head_of _ _ _ _ h)) in
      (sym is, tail_of _ _ _ _ h ∙ ap (λ f. inner f y) is)
  told (items ds) e x y h =
      let is = is_items e (ap (λ (m : Mark). m.0) (sym (head_of _ _ _ _ h))) in
      let rest = told_items ds is.0 x y (tail_of _ _ _ _ h ∙ ap (λ f. inner f y) is.1) in
      (ap items rest.0 ∙ sym is.1, rest.1)
  told (members ms) e x y h =
      let is = is_members e (ap (λ (m : Mark). m.0) (sym (head_of _ _ _ _ h))) in
      let rest = told_fields ms is.0 x y (tail_of _ _ _ _ h ∙ ap (λ f. inner f y) is.1) in
      (ap members rest.0 ∙ sym is.1, rest.1)
  told other e x y h =
      let is : e ≡ other = is_other e (ap (λ (m : Mark). m.0) (sym (head_of _ _ _ _ h))) in
      (sym is, tail_of _ _ _ _ h ∙ ap (λ f. inner f y) is)

  told_items : (ds es : Items) (x y : List Mark) → spelled_items ds x ≡ spelled_items es y
      → Front ds es x y
  told_items no_items no_items x y h = (refl, tail_of _ _ _ _ h)
  told_items no_items (item e es) x y h =
      absurd (let at : 7 ≡ 8 = ap (λ (m : Mark). m.0) (head_of _ _ _ _ h) in cc)
  told_items (item d ds) no_items x y h =
      absurd (let at : 8 ≡ 7 = ap (λ (m : Mark). m.0) (head_of _ _ _ _ h) in cc)
  told_items (item d ds) (item e es) x y h =
      let first = told d e _ _ (tail_of _ _ _ _ h) in
      let rest = told_items ds es x y first.1 in
      (λ i. item (first.0 i) (rest.0 i), rest.1)

  told_fields : (ms ns : Fields) (x y : List Mark) → spelled_fields ms x ≡ spelled_fields ns y
      → Front ms ns x y
  told_fields no_fields no_fields x y h = (refl, tail_of _ _ _ _ h)
  told_fields no_fields (field k e ns) x y h =
      absurd (let at : 7 ≡ 8 = ap (λ (m : Mark). m.0) (head_of _ _ _ _ h) in cc)
  told_fields (field k d ms) no_fields x y h =
      absurd (let at : 8 ≡ 7 = ap (λ (m : Mark). m.0) (head_of _ _ _ _ h) in cc)
  told_fields (field k d ms) (field l e ns) x y h =
      let name : k ≡ l = ap (λ (m : Mark). m.1.1.1) (head_of _ _ _ _ h) in
      let first = told d e _ _ (tail_of _ _ _ _ h) in
      let rest = told_fields ms ns x y first.1 in
      (λ i. field (name i) (first.0 i) (rest.0 i), rest.1)

pub items_apart : (ds es : Items) → spelled_items ds [] ≡ spelled_items es [] → ds ≡ es
items_apart ds es h = (told_items ds es [] [] h).0

pub fields_apart : (ms ns : Fields) → spelled_fields ms [] ≡ spelled_fields ns [] → ms ≡ ns
fields_apart ms ns h = (told_fields ms ns [] [] h).0

abbrev pub marks_code : Coded (List Mark)
marks_code = coded_list (coded× coded_ℕ (coded× coded_bool (coded× coded_ℤ (coded_list coded_ℕ))))

abbrev pub items_code : Coded Items
items_code = coded_via marks_code (λ ds. spelled_items ds []) items_apart

abbrev pub fields_code : Coded Fields
fields_code = coded_via marks_code (λ ms. spelled_fields ms []) fields_apart
