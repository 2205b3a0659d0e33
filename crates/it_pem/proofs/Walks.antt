-- A walk over lines that are joined up to the last.
use Rattle.std.proofs.Common.{◌≡◌, ◌∙◌, ℕ, ◌+◌, ◌<◌, ◌≤◌, List, [], ◌∷◌, ◌++◌, Bool, not, true, false}
use Rattle.std.proofs.Common.{if◌then◌else◌, Option, Some, None, option_map, Bor, refl, sym, ap}
use Rattle.std.proofs.Common.{append_assoc, append-nil, length, length-append, nat_lt, arith, IsTrue, ◌↔◌, inl, inr}
use Rattle.std.proofs.lemmas.Bool.{cases_lt, lt-ltb, le-ltb}
use Rattle.std.specs.Str.{bytes_eq}
use Rattle.std.specs.Str.Iter.{lines_steps}
use Rattle.std.specs.declared.str.Lines.{Lines}
use Rattle.it_pem.specs.PublicKeyText.{at_most, begin_mark, body_of, end_mark, is_body_line, joined_to_end}
use Rattle.it_pem.specs.inside.Lines.{Gives}

-- so far: what was joined stands before what the last line and the lines that are left come to
pub record Walked (lines : Lines) (all : List (List ℕ)) (joined last : List ℕ) : Type 0 where
  pub rest : List (List ℕ)
  pub gives : Gives lines rest
  pub is : joined_to_end all ≡ option_map (λ more. joined ++ more) (joined_to_end (last ∷ rest))

-- one step of an iterator
pub gives_more : (lines now : Lines) (line : Bor (List ℕ)) (all : List (List ℕ)) → Gives lines all
    → lines_steps lines (Some line) now
    → (rest : List (List ℕ)) × (all ≡ line.now ∷ rest) × Gives now rest
gives_more lines now line [] gives step = absurd (gives line now step)
gives_more lines now line (first ∷ rest) gives step =
    let next = gives.1 line now step in
    (rest, ap (λ x. x ∷ rest) (sym next.0), next.1)

pub gives_none : (lines now : Lines) (all : List (List ℕ)) → Gives lines all
    → lines_steps lines None now → all ≡ []
gives_none lines now [] gives step = refl
gives_none lines now (first ∷ rest) gives step = absurd (gives.0 now step)

-- a choice that is made
chosen : (b : Bool) (x y : Option (List ℕ)) → b ≡ true → (if b then x else y) ≡ x
chosen true x y e = refl
chosen false x y e = cc

other : (b : Bool) (x y : Option (List ℕ)) → b ≡ false → (if b then x else y) ≡ y
other true x y e = cc
other false x y e = refl

-- what a test for a difference says
pub differs : (b : Bool) → not b ≡ true → b ≡ false
differs true e = cc
differs false e = refl

pub is_same : (b : Bool) → not b ≡ false → b ≡ true
is_same true e = refl
is_same false e = cc

-- what a test that fails says
pub over : (b : Bool) (n m : ℕ) → b ≡ false → IsTrue b ↔ (n ≤ m) → m < n
over b n m e both = elim (cases_lt m n) [
  | inl above ↦ above
  | inr within ↦ absurd (let passes : b ≡ true = both.1 within in cc)
]

-- texts before what there may be
nothing_before : (o : Option (List ℕ)) → o ≡ option_map (λ more. [] ++ more) o
nothing_before None = refl
nothing_before (Some more) = refl

both_before : (first second : List ℕ) (o : Option (List ℕ))
    → option_map (λ more. first ++ more) (option_map (λ more. second ++ more) o)
    ≡ option_map (λ more. (first ++ second) ++ more) o
both_before first second None = refl
both_before first second (Some more) = ap (λ text. Some text) (sym (append_assoc first second more))

-- a text that begins with too many characters is too long
too_long : (n : ℕ) (first : List ℕ) (o : Option (List ℕ)) → n < length first
    → None ≡ at_most n (option_map (λ more. first ++ more) o)
too_long n first None long = refl
too_long n first (Some more) long =
    let more_long : n < length (first ++ more) = omega (arith, length-append first more) in
    sym (chosen (nat_lt n (length (first ++ more))) None (Some (first ++ more))
    (lt-ltb n (length (first ++ more)) more_long))

-- no lines have no end
pub no_lines : (lines now : Lines) (all : List (List ℕ)) → Gives lines all
    → lines_steps lines None now → None ≡ at_most 2048 (joined_to_end all)
no_lines lines now all gives step =
    ap (λ xs. at_most 2048 (joined_to_end xs)) (sym (gives_none lines now all gives step))

pub walked_first : (lines now : Lines) (first : Bor (List ℕ)) (all : List (List ℕ))
    → Gives lines all → lines_steps lines (Some first) now → Walked now all [] first.now
walked_first lines now first all gives step =
    let next = gives_more lines now first all gives step in
    record {
      rest = next.0;
      gives = next.2;
      is = ap joined_to_end next.1 ∙ nothing_before (joined_to_end (first.now ∷ next.0));
    }

-- what another line makes of the walk
with_line : (joined last line : List ℕ) (rest : List (List ℕ)) → is_body_line last ≡ true
    → option_map (λ more. joined ++ more) (joined_to_end (last ∷ line ∷ rest))
    ≡ option_map (λ more. (joined ++ last) ++ more) (joined_to_end (line ∷ rest))
with_line joined last line rest fits =
    ap (option_map (λ more. joined ++ more)) (chosen (is_body_line last)
    (option_map (λ more. last ++ more) (joined_to_end (line ∷ rest))) None fits)
    ∙ both_before joined last (joined_to_end (line ∷ rest))

next_is : (lines now : Lines) (line : Bor (List ℕ)) (all : List (List ℕ)) (joined last : List ℕ)
    → (walked : Walked lines all joined last) → lines_steps lines (Some line) now
    → is_body_line last ≡ true
    → (rest : List (List ℕ)) × Gives now rest × (joined_to_end all
    ≡ option_map (λ more. (joined ++ last) ++ more) (joined_to_end (line.now ∷ rest)))
next_is lines now line all joined last walked step fits =
    let next = gives_more lines now line walked.rest walked.gives step in (
      next.0,
      next.2,
      walked.is
          ∙ ap (λ xs. option_map (λ more. joined ++ more) (joined_to_end (last ∷ xs))) next.1
          ∙ with_line joined last line.now next.0 fits,
    )

pub walked_more : (lines now : Lines) (line : Bor (List ℕ)) (all : List (List ℕ))
    (joined last : List ℕ) → Walked lines all joined last → lines_steps lines (Some line) now
    → is_body_line last ≡ true → Walked now all (joined ++ last) line.now
walked_more lines now line all joined last walked step fits =
    let next = next_is lines now line all joined last walked step fits in
    record { rest = next.0; gives = next.1; is = next.2 }

-- a line before the last that is none of base64
pub bad_line : (lines now : Lines) (line : Bor (List ℕ)) (all : List (List ℕ))
    (joined last : List ℕ) → Walked lines all joined last → lines_steps lines (Some line) now
    → is_body_line last ≡ false → None ≡ at_most 2048 (joined_to_end all)
bad_line lines now line all joined last walked step bad =
    let next = gives_more lines now line walked.rest walked.gives step in
    sym (ap (at_most 2048) (walked.is
    ∙ ap (λ xs. option_map (λ more. joined ++ more) (joined_to_end (last ∷ xs))) next.1
    ∙ ap (option_map (λ more. joined ++ more)) (other (is_body_line last)
    (option_map (λ more. last ++ more) (joined_to_end (line.now ∷ next.0))) None bad)))

-- too many characters
pub no_room : (lines now : Lines) (line : Bor (List ℕ)) (all : List (List ℕ))
    (joined last : List ℕ) → Walked lines all joined last → lines_steps lines (Some line) now
    → is_body_line last ≡ true → 2048 < length joined + length last
    → None ≡ at_most 2048 (joined_to_end all)
no_room lines now line all joined last walked step fits long =
    let next = next_is lines now line all joined last walked step fits in
    let more_long : 2048 < length (joined ++ last) = omega (arith, length-append joined last) in
    too_long 2048 (joined ++ last) (joined_to_end (line.now ∷ next.0)) more_long
    ∙ ap (at_most 2048) (sym next.2)

-- the last line is another one, or the end mark
last_is : (lines now : Lines) (all : List (List ℕ)) (joined last : List ℕ)
    → Walked lines all joined last → lines_steps lines None now → joined_to_end all
    ≡ option_map (λ more. joined ++ more) (if bytes_eq last end_mark then Some [] else None)
last_is lines now all joined last walked step = walked.is
    ∙ ap (λ xs. option_map (λ more. joined ++ more) (joined_to_end (last ∷ xs)))
    (gives_none lines now walked.rest walked.gives step)

pub not_ended : (lines now : Lines) (all : List (List ℕ)) (joined last : List ℕ)
    → Walked lines all joined last → lines_steps lines None now → bytes_eq last end_mark ≡ false
    → None ≡ at_most 2048 (joined_to_end all)
not_ended lines now all joined last walked step bad =
    sym (ap (at_most 2048) (last_is lines now all joined last walked step
    ∙ ap (option_map (λ more. joined ++ more)) (other (bytes_eq last end_mark) (Some []) None bad)))

pub ended : (lines now : Lines) (all : List (List ℕ)) (joined last : List ℕ)
    → Walked lines all joined last → lines_steps lines None now → bytes_eq last end_mark ≡ true
    → length joined ≤ 2048 → Some joined ≡ at_most 2048 (joined_to_end all)
ended lines now all joined last walked step good few =
    sym (ap (at_most 2048) (last_is lines now all joined last walked step
    ∙ ap (option_map (λ more. joined ++ more)) (chosen (bytes_eq last end_mark) (Some []) None good)
    ∙ ap (λ text. Some text) (append-nil joined))
    ∙ other (nat_lt 2048 (length joined)) None (Some joined) (le-ltb 2048 (length joined) few))

-- the first line is missing, another one, or the begin mark
pub no_first : (lines now : Lines) (all : List (List ℕ)) → Gives lines all
    → lines_steps lines None now → None ≡ at_most 2048 (body_of all)
no_first lines now all gives step =
    ap (λ xs. at_most 2048 (body_of xs)) (sym (gives_none lines now all gives step))

pub other_first : (first : List ℕ) (rest all : List (List ℕ)) → all ≡ first ∷ rest
    → bytes_eq first begin_mark ≡ false → None ≡ at_most 2048 (body_of all)
other_first first rest all is bad = sym (ap (λ xs. at_most 2048 (body_of xs)) is
    ∙ ap (at_most 2048) (other (bytes_eq first begin_mark) (joined_to_end rest) None bad))

pub same_first : (first : List ℕ) (rest all : List (List ℕ)) → all ≡ first ∷ rest
    → bytes_eq first begin_mark ≡ true
    → at_most 2048 (joined_to_end rest) ≡ at_most 2048 (body_of all)
same_first first rest all is good = sym (ap (λ xs. at_most 2048 (body_of xs)) is
    ∙ ap (at_most 2048) (chosen (bytes_eq first begin_mark) (joined_to_end rest) None good))
