-- Texts of keys tell them apart.
use Rattle.std.proofs.Common.{◌≡◌, ◌∙◌, ℕ, zero, suc, List, [], ◌∷◌, ◌++◌, ◌&&◌, length, take, drop}
use Rattle.std.proofs.Common.{replicate, Bool, true, false, refl, sym, ap, append_assoc, arith}
use Rattle.std.specs.Str.{bytes_eq}
use Rattle.std.specs.List.{repeat}
use Rattle.std.proofs.Math.Seq.{drop-append_seam, take-append_seam}
use Rattle.std.proofs.lemmas.Bool.{false≢true}
use Rattle.std.proofs.lemmas.Slice.Eq.{bytes_eq-Decides}
use Rattle.it_findings.specs.SharedKeys.{is_same_key}
use Rattle.it_findings.specs.declared.listed_key.ListedKey.{ListedKey}
use Rattle.it_findings.specs.declared.listed_key.ListedKey.TheVariants.{Identity, Public}
use Rattle.it_findings.specs.inside.FirstPlaces.{identity_name, name_of}

head_of : List ℕ → ℕ
head_of [] = 0
head_of (x ∷ xs) = x

tail_of : List ℕ → List ℕ
tail_of [] = []
tail_of (x ∷ xs) = xs

module _ (mark : ℕ) where
  repeated : (n : ℕ) → repeat n (mark ∷ []) ≡ replicate n mark
  repeated zero = refl
  repeated (suc n) = ap (λ marks. mark ∷ marks) (repeated n)

  -- the marks, a last one and two texts, appended one after another
  pub joined : (last n : ℕ) (i s : List ℕ)
      → ((repeat n (mark ∷ []) ++ last ∷ []) ++ i) ++ s
      ≡ replicate n mark ++ last ∷ (i ++ s)
  joined last n i s =
      ap (λ marks. ((marks ++ last ∷ []) ++ i) ++ s) (repeated n)
      ∙ append_assoc (replicate n mark ++ last ∷ []) i s
      ∙ append_assoc (replicate n mark) (last ∷ []) (i ++ s)

  -- what follows the marks is the same where the whole is
  after_marks : (last : ℕ) → ¬ (mark ≡ last) → (n m : ℕ) (x y : List ℕ)
      → replicate n mark ++ last ∷ x ≡ replicate m mark ++ last ∷ y → (n ≡ m) × (x ≡ y)
  unfolding head_of tail_of
  after_marks last other zero zero x y e = (refl, ap tail_of e)
  after_marks last other zero (suc m) x y e = absurd (other (sym (ap head_of e)))
  after_marks last other (suc n) zero x y e = absurd (other (ap head_of e))
  after_marks last other (suc n) (suc m) x y e =
      let rest = after_marks last other n m x y (ap tail_of e) in
      (ap (λ k. suc k) rest.0, rest.1)

stop_is_no_colon : ¬ (◌≡◌ {A = ℕ} 0x2e 0x3a)
stop_is_no_colon e = omega arith

stop_is_no_sign : ¬ (◌≡◌ {A = ℕ} 0x2e 0x3d)
stop_is_no_sign e = omega arith

colon_is_no_sign : ¬ (◌≡◌ {A = ℕ} 0x3a 0x3d)
colon_is_no_sign e = omega arith

-- identities with one text are one
one_identity : (i j s t : List ℕ) → identity_name i s ≡ identity_name j t → (i ≡ j) × (s ≡ t)
one_identity i j s t e =
    let rest = after_marks 0x2e 0x3a stop_is_no_colon (length i) (length j) (i ++ s) (j ++ t) e in (
      sym (take-append_seam i s) ∙ ap (take (length i)) rest.1
          ∙ ap (λ n. take n (j ++ t)) rest.0 ∙ take-append_seam j t,
      sym (drop-append_seam i s) ∙ ap (drop (length i)) rest.1
          ∙ ap (λ n. drop n (j ++ t)) rest.0 ∙ drop-append_seam j t,
    )

-- no identity has the text of a public key
apart : (i s p : List ℕ) → ¬ (identity_name i s ≡ 0x3d ∷ p)
unfolding head_of
apart [] s p e = colon_is_no_sign (ap head_of e)
apart (c ∷ i) s p e = stop_is_no_sign (ap head_of e)

is_both : (a b : Bool) → a ≡ true → b ≡ true → (a && b) ≡ true
is_both true b e f = f
is_both false b e f = absurd (false≢true e)

are_both : (a b : Bool) → (a && b) ≡ true → (a ≡ true) × (b ≡ true)
are_both true b e = (refl, e)
are_both false b e = absurd (false≢true e)

-- keys with one text are one, and the other way round
same_by_name : (k l : ListedKey) → name_of k ≡ name_of l → is_same_key k l ≡ true
unfolding tail_of
same_by_name (Identity i s) (Identity j t) e =
    let same = one_identity i j s t e in
    is_both (bytes_eq i j) (bytes_eq s t) ((bytes_eq-Decides i j).1 same.0)
    ((bytes_eq-Decides s t).1 same.1)
same_by_name (Public p) (Public q) e = (bytes_eq-Decides p q).1 (ap tail_of e)
same_by_name (Identity i s) (Public q) e = absurd (apart i s q e)
same_by_name (Public p) (Identity j t) e = absurd (apart j t p (sym e))

name_by_same : (k l : ListedKey) → is_same_key k l ≡ true → name_of k ≡ name_of l
name_by_same (Identity i s) (Identity j t) e =
    let same = are_both (bytes_eq i j) (bytes_eq s t) e in
    let first : i ≡ j = (bytes_eq-Decides i j).0 same.0 in
    let second : s ≡ t = (bytes_eq-Decides s t).0 same.1 in
    ap (λ x. identity_name x s) first ∙ ap (identity_name j) second
name_by_same (Public p) (Public q) e = ap (λ x. 0x3d ∷ x) ((bytes_eq-Decides p q).0 e)
name_by_same (Identity i s) (Public q) e = absurd (false≢true e)
name_by_same (Public p) (Identity j t) e = absurd (false≢true e)

by_both : (a b : Bool) → (a ≡ true → b ≡ true) → (b ≡ true → a ≡ true) → a ≡ b
by_both true b to from = sym (to refl)
by_both false true to from = from refl
by_both false false to from = refl

-- whether two keys are one shows in their texts
pub told_apart : (k l : ListedKey) → bytes_eq (name_of k) (name_of l) ≡ is_same_key k l
told_apart k l =
    by_both (bytes_eq (name_of k) (name_of l)) (is_same_key k l)
    (λ e. same_by_name k l ((bytes_eq-Decides (name_of k) (name_of l)).0 e))
    (λ e. (bytes_eq-Decides (name_of k) (name_of l)).1 (name_by_same k l e))
