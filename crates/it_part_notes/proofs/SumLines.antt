-- The lines of a digest list, one after another, and what is read of each.
use Rattle.std.proofs.Common.{◌≡◌, ◌≢◌, ◌==◌, ℕ, ◌+◌, suc, true, false, List, [], ◌∷◌, ◌++◌}
use Rattle.std.proofs.Common.{length, refl, sym, ap, append_assoc, arith}
use Rattle.std.proofs.Common.{◌∙◌}
use Rattle.std.proofs.lemmas.List.{length-append}
use Rattle.std.specs.List.{slice_get}
use Rattle.std.specs.Str.{IsUtf8}
use Rattle.it_base.proofs.Elements.{at_length}
use Rattle.it_digest.specs.DigestSet.{Algorithm}
use Rattle.it_digest.specs.Sums.{lines_of}
use Rattle.it_part_notes.specs.SumLine.{FollowsDigits, GivesPath, IsLine, IsMarked}

-- ---- the lines
-- the rest begins with the line of this number
pub record Begins (bytes : List ℕ) (number : ℕ) (rest : List ℕ) : Type 0 where
  pub before : List (List ℕ)
  pub lines_are : lines_of bytes ≡ before ++ lines_of rest
  pub number_is : number ≡ suc (length before)

pub begins_first : (bytes : List ℕ) → Begins bytes 1 bytes
begins_first bytes = record { before = []; lines_are = refl; number_is = refl }

module _ (bytes rest line after : List ℕ) (number : ℕ) (so_far : Begins bytes number rest)
    (next : lines_of rest ≡ line ∷ lines_of after) where
  -- the next line has the number
  pub line_here : IsLine bytes number line
  line_here = record {
    place = length so_far.before;
    stands = ap (λ lines. slice_get lines (length so_far.before))
        (so_far.lines_are ∙ ap (λ l. so_far.before ++ l) next)
        ∙ at_length so_far.before line (lines_of after);
    number_is = so_far.number_is;
  }

  -- the rest after it begins with the line of the number after
  pub begins_after : Begins bytes (number + 1) after
  begins_after = record {
    before = so_far.before ++ line ∷ [];
    lines_are = so_far.lines_are ∙ ap (λ l. so_far.before ++ l) next
        ∙ sym (append_assoc so_far.before (line ∷ []) (lines_of after));
    number_is = let same = so_far.number_is in
        omega (arith, same, length-append so_far.before (line ∷ []));
  }

-- ---- one line
pub is_named : (path : List ℕ) → false ≡ (length path == 0) → path ≢ []
is_named [] none same = let no : false ≡ true = none in cc
is_named (byte ∷ path) some none = cc none

pub gives_read : (algorithm : Algorithm) (line text path : List ℕ)
    → FollowsDigits algorithm line text → IsMarked text path → path ≢ [] → IsUtf8 path
    → GivesPath algorithm line path
gives_read algorithm line text path follows marked named in_utf8 = (
  follows.0,
  record {
    text = text;
    cut = follows.1;
    path_is = record { written = marked; named = named; in_utf8 = in_utf8 };
  },
)
