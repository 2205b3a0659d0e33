-- What is said of lists, one element more.
use Rattle.std.proofs.Common.{◌≡◌, ℕ, ◌+◌, ◌<◌, zero, suc, List, [], ◌∷◌, ◌++◌, length, get_or, take}
use Rattle.std.proofs.Common.{refl, sym, ap, subst, ◌∙◌, append_assoc, arith}
use Rattle.std.proofs.lemmas.List.{append-nil}
use Rattle.it_findings.specs.Joined.{Joined, JoinedEach, JoinedFrom}

joined_from_more : {X F : Type 0} (R : ℕ → X → List F → Type 0) (n : ℕ) (xs : List X) (i : ℕ)
    (x : X) (found here : List F) → i < length xs → x ≡ get_or xs i x
    → JoinedFrom R n (take i xs) found → R (n + i) x here
    → JoinedFrom R n (take (i + 1) xs) (found ++ here)
joined_from_more R n [] i x found here below at so is = absurd (omega (arith, below))
joined_from_more R n (y ∷ ys) zero x found here below at so is =
    let start : n + 0 ≡ n = omega arith in (
      here,
      [],
      ap (λ f. f ++ here) so ∙ sym (append-nil here),
      subst (λ z. R n z here) at (subst (λ m. R m x here) start is),
      refl,
    )
joined_from_more R n (y ∷ ys) (suc i) x found here below at so is =
    let place : n + suc i ≡ n + 1 + i = omega arith in
    let next : suc (i + 1) ≡ suc i + 1 = omega arith in
    let more = joined_from_more R (n + 1) ys i x so.1 here (omega (arith, below)) at so.4
    (subst (λ m. R m x here) place is) in
    let all : JoinedFrom R n (take (suc (i + 1)) (y ∷ ys)) (found ++ here) = (
      so.0,
      so.1 ++ here,
      ap (λ f. f ++ here) so.2 ∙ append_assoc so.0 so.1 here,
      so.3,
      more,
    ) in
    subst (λ m. JoinedFrom R n (take m (y ∷ ys)) (found ++ here)) next all

-- what is said of the elements so far, and then of the next one
pub joined_more : {X F : Type 0} (R : ℕ → X → List F → Type 0) (xs : List X) (i : ℕ) (x : X)
    (found here : List F) → i < length xs → x ≡ get_or xs i x → Joined R (take i xs) found
    → R i x here → Joined R (take (i + 1) xs) (found ++ here)
joined_more R xs i x found here below at so is =
    let place : i ≡ 0 + i = omega arith in
    joined_from_more R 0 xs i x found here below at so (subst (λ m. R m x here) place is)

joined_from_push : {X F : Type 0} (P : X → List F → Type 0) (n : ℕ) (xs : List X) (x : X)
    (found here : List F) → JoinedFrom (λ place y z. P y z) n xs found → P x here
    → JoinedFrom (λ place y z. P y z) n (xs ++ x ∷ []) (found ++ here)
joined_from_push P n [] x found here so is = (
  here,
  [],
  ap (λ f. f ++ here) so ∙ sym (append-nil here),
  is,
  refl,
)
joined_from_push P n (y ∷ ys) x found here so is = (
  so.0,
  so.1 ++ here,
  ap (λ f. f ++ here) so.2 ∙ append_assoc so.0 so.1 here,
  so.3,
  joined_from_push P (n + 1) ys x so.1 here so.4 is,
)

-- what is said of each element whatever its place, and then of one more
pub joined_push : {X F : Type 0} (P : X → List F → Type 0) (xs : List X) (x : X)
    (found here : List F) → JoinedEach P xs found → P x here
    → JoinedEach P (xs ++ x ∷ []) (found ++ here)
joined_push P xs x found here so is = joined_from_push P 0 xs x found here so is
