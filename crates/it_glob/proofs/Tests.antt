-- What the tests of characters and ranges say.
use Rattle.std.proofs.Common.{◌≡◌, ℕ, ◌≤◌, ◌⊎◌, Bool, true, false, ◌&&◌, ◌||◌, leb, refl, sym}
use Rattle.std.proofs.Common.{Decides, leb-true, le-leb}
use Rattle.std.proofs.lemmas.Bool.Decides.{Decides-and, Decides-or}
use Rattle.it_glob.specs.declared.ranges.Range.{Range}
use Rattle.it_glob.specs.inside.Ranges.{is_within}

-- two tests of which each passes where the other does answer alike
pub same_answer : (a b : Bool) → (a ≡ true → b ≡ true) → (b ≡ true → a ≡ true) → a ≡ b
same_answer true b there back = sym (there refl)
same_answer false true there back = back refl
same_answer false false there back = refl

pub and-Decides : (a b : Bool) → Decides (a && b) ((a ≡ true) × (b ≡ true))
and-Decides a b = Decides-and a b (λ e. e, λ e. e) (λ e. e, λ e. e)

pub or-Decides : (a b : Bool) → Decides (a || b) ((a ≡ true) ⊎ (b ≡ true))
or-Decides a b = Decides-or a b (λ e. e, λ e. e) (λ e. e, λ e. e)

pub within-Decides : (c : ℕ) (range : Range)
    → Decides (is_within c range) ((range.first ≤ c) × (c ≤ range.last))
within-Decides c range = Decides-and (leb range.first c) (leb c range.last)
    (leb-true range.first c, le-leb range.first c) (leb-true c range.last, le-leb c range.last)
