-- What is listed for elements in turn, one element more.
use Rattle.std.proofs.Common.{◌≡◌, ℕ, ◌+◌, ◌<◌, zero, suc, List, [], ◌∷◌, ◌++◌, length, get_or, map}
use Rattle.std.proofs.Common.{take, refl, sym, ap, subst, ◌∙◌, append_assoc, append-nil, arith}
use Rattle.it_sublayouts.specs.Counted.{After, InTurn}
use Rattle.it_sublayouts.specs.declared.counted.CountedSublayout.{CountedSublayout}
use Rattle.it_sublayouts.specs.declared.listed.ListedSublayouts.{ListedSublayouts}
use Rattle.it_sublayouts.specs.inside.Below.{AreListed, Lists}

-- the same of elements by their images
pub in_turn_image : {X Y : Type 0} (f : Y → X) (Listed : X → After) (ys : List Y)
    (before found : List CountedSublayout) → InTurn (λ y. Listed (f y)) ys before found
    → InTurn Listed (map f ys) before found
in_turn_image f Listed [] before found so = so
in_turn_image f Listed (y ∷ ys) before found so =
    (so.0, so.1, so.2, so.3, in_turn_image f Listed ys (before ++ so.0) so.1 so.4)

module _ {X : Type 0} (Listed : X → After) where
  in_turn_more : (xs : List X) (i : ℕ) (x : X) (before found here : List CountedSublayout)
      → i < length xs → x ≡ get_or xs i x → InTurn Listed (take i xs) before found
      → Listed x (before ++ found) here → InTurn Listed (take (i + 1) xs) before (found ++ here)
  in_turn_more [] i x before found here below at so is = absurd (omega (arith, below))
  in_turn_more (y ∷ ys) zero x before found here below at so is =
      let none : before ++ found ≡ before = ap (λ f. before ++ f) so ∙ append-nil before in (
        here,
        [],
        ap (λ f. f ++ here) so ∙ sym (append-nil here),
        subst (λ z. Listed z before here) at (subst (λ b. Listed x b here) none is),
        refl,
      )
  in_turn_more (y ∷ ys) (suc i) x before found here below at so is =
      let next : suc (i + 1) ≡ suc i + 1 = omega arith in
      let whole : before ++ found ≡ (before ++ so.0) ++ so.1 =
      ap (λ f. before ++ f) so.2 ∙ sym (append_assoc before so.0 so.1) in
      let more = in_turn_more ys i x (before ++ so.0) so.1 here (omega (arith, below)) at so.4
      (subst (λ b. Listed x b here) whole is) in
      let all : InTurn Listed (take (suc (i + 1)) (y ∷ ys)) before (found ++ here) = (
        so.0,
        so.1 ++ here,
        ap (λ f. f ++ here) so.2 ∙ append_assoc so.0 so.1 here,
        so.3,
        more,
      ) in
      subst (λ m. InTurn Listed (take m (y ∷ ys)) before (found ++ here)) next all

  -- nothing, for none
  pub lists_none : (listed : ListedSublayouts) → Lists (InTurn Listed []) listed listed []
  lists_none listed before are = (refl, subst (AreListed listed) (sym (append-nil before)) are)

  -- what was listed for the elements so far, and then for the next one
  pub lists_more : (xs : List X) (i : ℕ) (x : X) (old now new : ListedSublayouts)
      (found here : List CountedSublayout) → i < length xs → x ≡ get_or xs i x
      → Lists (InTurn Listed (take i xs)) old now found → Lists (Listed x) now new here
      → Lists (InTurn Listed (take (i + 1) xs)) old new (found ++ here)
  lists_more xs i x old now new found here below at so is before are =
      let first = so before are in
      let next = is (before ++ found) first.1 in (
        in_turn_more xs i x before found here below at first.0 next.0,
        subst (AreListed new) (append_assoc before found here) next.1,
      )
