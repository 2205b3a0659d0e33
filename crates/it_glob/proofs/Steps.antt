-- The steps of a matching, one after another.
use Rattle.std.proofs.Common.{◌≡◌, ◌≢◌, ℕ, ◌+◌, ◌*◌, ◌≤◌, ◌⊎◌, ◌↔◌, inl, inr, List, [], ◌∷◌, ◌++◌}
use Rattle.std.proofs.Common.{Option, Some, None, length, arith, refl, ap, sym, subst, ◌∙◌}
use Rattle.std.proofs.lemmas.Option.{same_Some}
use Rattle.std.proofs.lemmas.List.{nil_from_length}
use Rattle.std.proofs.lemmas.Str.{chars-nil, encodes-chars}
use Rattle.std.specs.Prelude.{IfSome}
use Rattle.std.specs.Str.{chars, encode_utf8_all, IsUtf8}
use Rattle.it_glob.specs.Pattern.{MatchesChars, Takes}
use Rattle.it_glob.specs.inside.Restarts.{Place, next_place}
use Rattle.it_glob.specs.declared.item.Item.{Item}
use Rattle.it_glob.specs.declared.item.Item.TheVariants.{Star, Any, OneOf, Exactly}

-- items match what is left after some first characters, at least one
abbrev pub MatchesLater : List Item → List ℕ → Type 0
MatchesLater items [] = ⊥
MatchesLater items (c ∷ cs) = MatchesChars items cs ⊎ MatchesLater items cs

-- items match further on from a place
abbrev pub CanRestart : Option Place → Type 0
CanRestart None = ⊥
CanRestart (Some place) = MatchesLater place.0 place.1

-- how many times a matching can still start again: before the first star, at each character and at
-- the end
abbrev pub room : ℕ → Option Place → ℕ
room n None = n + 1
room n (Some place) = length place.1

-- a matching of a whole pattern and a whole text has come to these items and characters, and can
-- start again from a place
pub record Stands (whole : Place) (items : List Item) (cs : List ℕ)
    (restart : Option Place) : Type 0 where
  pub sound : MatchesChars items cs ⊎ CanRestart restart → MatchesChars whole.0 whole.1
  pub complete : MatchesChars whole.0 whole.1 → MatchesChars items cs ⊎ CanRestart restart
  -- what an earlier star could still do, this place can do further on
  pub absorbs : CanRestart restart → MatchesLater items cs
  pub items_left : length items ≤ length whole.0
  pub characters_left : length cs ≤ room (length whole.1) restart
  pub restart_items : IfSome restart (λ p. length p.0 ≤ length whole.0)

-- what a step makes smaller
abbrev pub steps_left : Place → List Item → Option Place → ℕ
steps_left whole items restart = room (length whole.1) restart * (length whole.0 + 1) + length items

-- a star takes nothing, or something
pub star_takes : (items : List Item) (cs : List ℕ) → MatchesChars (Star ∷ items) cs
    → MatchesChars items cs ⊎ MatchesLater items cs
star_takes items cs m = go m.0 cs m.1 m.2 m.3
  where
    go : (front cs : List ℕ) (rest : List ℕ) → cs ≡ front ++ rest → MatchesChars items rest
        → MatchesChars items cs ⊎ MatchesLater items cs
    go [] cs rest e m = inl (subst (MatchesChars items) (sym e) m)
    go (c ∷ front) [] rest e m = cc
    go (c ∷ front) (d ∷ cs) rest e m = inr (go front cs rest (cc) m)

pub star_over : (items : List Item) (cs : List ℕ) → MatchesChars items cs ⊎ MatchesLater items cs
    → MatchesChars (Star ∷ items) cs
star_over items cs (inl m) = ([], cs, refl, m)
star_over items [] (inr m) = absurd m
star_over items (c ∷ cs) (inr m) =
    let s = star_over items cs m in
    (c ∷ s.0, s.1, ap (λ l. c ∷ l) s.2, s.3)

star_later : (items : List Item) (cs : List ℕ) → MatchesLater (Star ∷ items) cs
    → MatchesLater items cs
star_later items (c ∷ cs) (inl m) = star_takes items cs m
star_later items (c ∷ cs) (inr m) = inr (star_later items cs m)
star_later items [] m = absurd m

-- an item other than a star takes the first character
abbrev One : Item → List Item → List ℕ → Type 0
One item items cs = (c : ℕ) × (rest : List ℕ) × (cs ≡ c ∷ rest) × Takes item c
    × MatchesChars items rest

takes_one : (item : Item) (items : List Item) (cs : List ℕ) → item ≢ Star
    → MatchesChars (item ∷ items) cs ↔ One item items cs
takes_one Star items cs n = absurd (n refl)
takes_one Any items cs n = (λ m. m, λ m. m)
takes_one (OneOf negated body) items cs n = (λ m. m, λ m. m)
takes_one (Exactly c) items cs n = (λ m. m, λ m. m)

one_now : (item : Item) (items : List Item) (cs : List ℕ) → item ≢ Star
    → MatchesChars (item ∷ items) cs → MatchesLater items cs
one_now item items cs n m =
    let o = (takes_one item items cs n).0 m in
    subst (MatchesLater items) (sym o.2) (inl o.4)

one_later : (item : Item) (items : List Item) (cs : List ℕ) → item ≢ Star
    → MatchesLater (item ∷ items) cs → MatchesLater items cs
one_later item items [] n m = absurd m
one_later item items (c ∷ cs) n (inr m) = inr (one_later item items cs n m)
one_later item items (c ∷ cs) n (inl m) = inr (one_now item items cs n m)

pub begins : (items : List Item) (cs : List ℕ) → Stands (items, cs) items cs None
begins items cs = record {
  sound = λ h. elim h [ inl m ↦ m | inr m ↦ absurd m ];
  complete = λ m. inl m;
  absorbs = λ m. absurd m;
  items_left = omega arith;
  characters_left = omega arith;
  restart_items = tt;
}

-- at a star
past_star : {whole : Place} {items : List Item} {cs : List ℕ} {restart : Option Place}
    → Stands whole (Star ∷ items) cs restart
    → Stands whole items cs (Some (items, cs))
past_star {whole} {items} {cs} s = record {
  sound = λ h. s.sound (inl (star_over items cs h));
  complete = λ m. elim (s.complete m) [
    | inl h ↦ star_takes items cs h
    | inr h ↦ inr (star_later items cs (s.absorbs h))
  ];
  absorbs = λ m. m;
  items_left = omega (arith, s.items_left);
  characters_left = omega arith;
  restart_items = omega (arith, s.items_left);
}

pub at_star : {whole : Place} {left : List Item} {item : Item} {items : List Item} {cs : List ℕ}
    {restart : Option Place}
    → left ≡ item ∷ items → item ≡ Star → Stands whole left cs restart
    → Stands whole items cs (Some (items, cs))
at_star {whole} {left} {item} {items} {cs} {restart} e star s =
    past_star (subst (λ l. Stands whole l cs restart) (e ∙ ap (λ x. x ∷ items) star) s)

-- at an item that takes the first character
past_one : {whole : Place} {item : Item} {items : List Item} {c : ℕ} {cs : List ℕ}
    {restart : Option Place} → item ≢ Star
    → Takes item c → Stands whole (item ∷ items) (c ∷ cs) restart → Stands whole items cs restart
past_one {whole} {item} {items} {c} {cs} {restart} n t s = record {
  sound = λ h. elim h [
    | inl m ↦ s.sound
        (inl ((takes_one item items (c ∷ cs) n).1 (c, cs, refl, t, m)))
    | inr m ↦ s.sound (inr m)
  ];
  complete = λ m. elim (s.complete m) [
    | inl h ↦ let o = (takes_one item items (c ∷ cs) n).0 h in let e : o.1 ≡ cs = cc in
        inl (rw e at o.4)
    | inr h ↦ inr h
  ];
  absorbs = λ m. elim (s.absorbs m) [
    | inl h ↦ one_now item items cs n h
    | inr h ↦ one_later item items cs n h
  ];
  items_left = omega (arith, s.items_left);
  characters_left = omega (arith, s.characters_left);
  restart_items = s.restart_items;
}

pub at_taken : {whole : Place} {left : List Item} {item : Item} {items : List Item} {text : List ℕ}
    {c : ℕ} {cs : List ℕ} {restart : Option Place}
    → left ≡ item ∷ items → text ≡ c ∷ cs → item ≢ Star → Takes item c
    → Stands whole left text restart → Stands whole items cs restart
at_taken {whole} {left} {item} {items} {text} {c} {cs} {restart} e f n t s =
    past_one n t (subst (λ l. Stands whole l (c ∷ cs) restart) e
    (subst (λ x. Stands whole left x restart) f s))

-- an item that does not take the first character
pub not_taken : {left : List Item} {item : Item} {items : List Item} {text : List ℕ} {c : ℕ}
    {cs : List ℕ}
    → left ≡ item ∷ items → text ≡ c ∷ cs → item ≢ Star → ¬ (Takes item c)
    → ¬ (MatchesChars left text)
not_taken {left} {item} {items} {text} {c} {cs} e f n t m =
    let o = (takes_one item items (c ∷ cs) n).0
    (subst (MatchesChars (item ∷ items)) f (subst (λ l. MatchesChars l text) e m)) in
    let d : o.0 ≡ c = cc in
    t (subst (Takes item) d o.3)

-- where the items do not match here, and start again
restarted : {whole : Place} {items ritems : List Item} {cs rcs : List ℕ} {c : ℕ}
    → ¬ (MatchesChars items cs)
    → Stands whole items cs (Some (ritems, c ∷ rcs)) → Stands whole ritems rcs (Some (ritems, rcs))
restarted n s = record {
  sound = λ h. s.sound (inr h);
  complete = λ m. elim (s.complete m) [ inl h ↦ absurd (n h) | inr h ↦ h ];
  absorbs = λ m. m;
  items_left = s.restart_items;
  characters_left = omega arith;
  restart_items = s.restart_items;
}

pub at_restart : (whole : Place) (items : List Item) (cs : List ℕ) (restart : Option Place)
    (p : Place) → ¬ (MatchesChars items cs)
    → next_place restart ≡ Some p → Stands whole items cs restart → Stands whole p.0 p.1 (Some p)
at_restart whole items cs None p n e s = cc
at_restart whole items cs (Some (ritems, [])) p n e s = cc
at_restart whole items cs (Some (ritems, c ∷ rcs)) p n e s =
    subst (λ q. Stands whole q.0 q.1 (Some q)) (same_Some _ _ e) (restarted n s)

-- where the items do not match here, and cannot start again
pub at_no_restart : (whole : Place) (items : List Item) (cs : List ℕ) (restart : Option Place)
    → ¬ (MatchesChars items cs)
    → next_place restart ≡ None → Stands whole items cs restart → ¬ (MatchesChars whole.0 whole.1)
at_no_restart whole items cs None n e s m = elim (s.complete m) [ inl h ↦ n h | inr h ↦ h ]
at_no_restart whole items cs (Some (ritems, [])) n e s m =
    elim (s.complete m) [ inl h ↦ n h | inr h ↦ h ]
at_no_restart whole items cs (Some (ritems, c ∷ rcs)) n e s m = cc

-- where nothing is left of the items and of the text
pub at_end : {whole : Place} {left : List Item} {text : List ℕ} {restart : Option Place}
    → left ≡ [] → text ≡ [] → Stands whole left text restart → MatchesChars whole.0 whole.1
at_end {whole} {left} {text} e f s = s.sound (inl (subst (λ l. MatchesChars l text) (sym e) f))

-- where only the text is left
pub no_items_left : {left : List Item} {text : List ℕ} → left ≡ [] → text ≢ []
    → ¬ (MatchesChars left text)
no_items_left {left} {text} e n m = n (subst (λ l. MatchesChars l text) e m)

-- a text of no bytes has no characters, and one of no characters has no bytes
pub no_characters : (bs : List ℕ) → length bs ≡ 0 → chars bs ≡ []
no_characters bs e = ap chars (nil_from_length bs e) ∙ chars-nil

pub some_characters : (bs : List ℕ) → IsUtf8 bs → length bs ≢ 0 → chars bs ≢ []
some_characters bs u n e = n (ap length (sym (encodes-chars bs u) ∙ ap encode_utf8_all e))
