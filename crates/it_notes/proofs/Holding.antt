-- The lines that are kept of all lines, one line after another.
use Rattle.std.proofs.Common.{◌≡◌, ◌++◌, ◌∷◌, ◌+◌, ◌-◌, ◌<◌, ◌≤◌, ◌^◌, ◌∙◌, [], ℕ, List, Vec, Global}
use Rattle.std.proofs.Common.{ap, arith, length, map, min, nat_le, refl, sym, take, Bool, true, false}
use Rattle.std.proofs.Common.{append_assoc, subst}
use Rattle.std.proofs.Common.{if◌then◌else◌}
use Rattle.std.proofs.lemmas.Bool.Decides.{nat_tests}
use Rattle.std.proofs.lemmas.List.{length-append, map-append}
use Rattle.std.proofs.lemmas.List.{take-append-le, take-map, take-take, take_all}
use Rattle.it_notes.specs.ShownLines.{Adds, Hold, count_of, further_line, shown_lines}
use Rattle.it_notes.specs.declared.lines.Lines.{Lines}

abbrev bytes : Vec ℕ Global → List ℕ
bytes line = line.items

module _ (all : List (List ℕ)) (old : Lines) (h : Hold old all) (line : List ℕ) (count : ℕ)
    (next : count ≡ min (old.count + 1) (2 ^ 64 - 1)) where
  counted : count ≡ count_of (all ++ line ∷ [])
  counted = omega (arith, next, h.counted, length-append all (line ∷ []))

  -- one line more, where forty are kept already
  pub hold_counted : 40 < count
      → Hold (record { alloc = old.alloc; lines = old.lines; count = count }) (all ++ line ∷ [])
  hold_counted more = record {
    first = h.first ∙ sym (take-append-le 40 all (line ∷ [])
        (omega (arith, more, next, h.counted)));
    counted = counted;
  }

  -- one line more, where there is room for it
  pub hold_more : count ≤ 40 → (lines : Vec (Vec ℕ Global) Global) (kept : Vec ℕ Global)
      → lines.items ≡ old.lines.items ++ kept ∷ [] → kept.items ≡ line
      → Hold (record { alloc = old.alloc; lines = lines; count = count }) (all ++ line ∷ [])
  hold_more room lines kept are is =
      let few : length all < 40 = omega (arith, room, next, h.counted) in
      let long : length (all ++ line ∷ []) ≤ 40 =
      omega (arith, few, length-append all (line ∷ [])) in
      let before : map bytes old.lines.items ≡ all =
      h.first ∙ take_all 40 all (omega (arith, few)) in
      record {
        first = ap (map bytes) are ∙ map-append bytes old.lines.items (kept ∷ [])
            ∙ ap (λ ls. ls ++ bytes kept ∷ []) before ∙ ap (λ l. all ++ l ∷ []) is
            ∙ sym (take_all 40 (all ++ line ∷ []) long);
        counted = counted;
      }

cond_of : {X : Type 0} (b : Bool) (x y : X) → b ≡ true → (if b then x else y) ≡ x
cond_of true x y e = refl
cond_of false x y e = cc

cond_else : {X : Type 0} (b : Bool) (x y : X) → b ≡ false → (if b then x else y) ≡ y
cond_else true x y e = cc
cond_else false x y e = refl

module _ (all : List (List ℕ)) (held : Lines) (h : Hold held all) where
  -- where there are few, all are shown
  pub shown_few : held.count ≤ 40 → map bytes held.lines.items ≡ shown_lines all
  shown_few few =
      let counted : count_of all ≤ 40 = omega (arith, few, h.counted) in
      let test : nat_le (count_of all) 40 ≡ true = grind (arith, nat_tests) in
      h.first ∙ take_all 40 all (omega (arith, counted))
      ∙ sym (cond_of (nat_le (count_of all) 40) all _ test)

  -- where there are more, the last is in place of those that are not kept
  pub shown_more : 40 < held.count → (lines : Vec (Vec ℕ Global) Global) (kept : Vec ℕ Global)
      → lines.items ≡ take 39 held.lines.items ++ kept ∷ []
      → kept.items ≡ further_line (held.count - 39) → map bytes lines.items ≡ shown_lines all
  shown_more more lines kept are is =
      let counted : 40 < count_of all = omega (arith, more, h.counted) in
      let test : nat_le (count_of all) 40 ≡ false = grind (arith, nat_tests) in
      let front : map bytes (take 39 held.lines.items) ≡ take 39 all =
      sym (take-map bytes 39 held.lines.items) ∙ ap (take 39) h.first
      ∙ take-take 39 40 all (omega arith) in
      let last : bytes kept ≡ further_line (count_of all - 39) =
      is ∙ ap (λ n. further_line (n - 39)) h.counted in
      ap (map bytes) are
      ∙ map-append bytes (take 39 held.lines.items) (kept ∷ [])
      ∙ ap (λ ls. ls ++ bytes kept ∷ []) front ∙ ap (λ l. take 39 all ++ l ∷ []) last
      ∙ sym (cond_else (nat_le (count_of all) 40) all _ test)

-- how many are not kept, where one makes room for the line that says so
pub further : (count : ℕ) → 40 < count → count - 40 + 1 ≡ count - 39
further count more = omega (arith, more)

-- one part after another
pub adds_then : (first second : List (List ℕ)) (old now new : Lines) → Adds first old now
    → Adds second now new → Adds (first ++ second) old new
adds_then first second old now new one other = λ all h.
    subst (Hold new) (append_assoc all first second) (other (all ++ first) (one all h))
