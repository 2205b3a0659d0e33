-- The keys that those of a list are renamed to, one to one: as many, and all different.
use Rattle.std.proofs.Common.{◌≡◌, ◌∙◌, List, [], ◌∷◌, Bool, true, false, length, Contains, ⊎_elim}
use Rattle.std.proofs.Common.{refl, sym, subst}
use Rattle.std.specs.List.{AllByRecursion, IsDistinct}
use Rattle.std.proofs.lemmas.Map.Keys.{IsDistinct-cons}
use Rattle.it_dsse.specs.Panel.{KeyNumber}
use Rattle.it_chain.specs.Threshold.{same_key}
use Rattle.it_chain.proofs.Members.{in_cases, in_head, in_none, in_tail}
use Rattle.it_chain.proofs.Numbers.{same_key-Decides}
use Rattle.it_chain.proofs.Uniques.{all_unlike}

-- the other key of each key of a list
abbrev pub Renaming : (KeyNumber → KeyNumber → Type 0) → List KeyNumber → Type 0
Renaming R keys = (key : KeyNumber) → Contains keys key → (other : KeyNumber) × R key other

module _ (R : KeyNumber → KeyNumber → Type 0) where
  abbrev pub images : (keys : List KeyNumber) → Renaming R keys → List KeyNumber
  images [] f = []
  images (key ∷ keys) f =
      (f key (in_head key keys)).0 ∷ images keys (λ k c. f k (in_tail key keys k c))

  pub length_images : (keys : List KeyNumber) (f : Renaming R keys)
      → length (images keys f) ≡ length keys
  length_images [] f = refl
  length_images (key ∷ keys) f = rw (length_images keys (λ k c. f k (in_tail key keys k c))) refl

  -- an image is that of some key
  pub of_images : (keys : List KeyNumber) (f : Renaming R keys) (other : KeyNumber)
      → Contains (images keys f) other → (key : KeyNumber) × Contains keys key × R key other
  of_images [] f other c = absurd (in_none other c)
  of_images (key ∷ keys) f other c =
      let image = f key (in_head key keys) in
      let behind = λ (k : KeyNumber) (d : Contains keys k). f k (in_tail key keys k d) in
      ⊎_elim (λ head. (key, in_head key keys, subst (R key) head image.1))
      (λ later. let found = of_images keys behind other later in
      (found.0, in_tail key keys found.0 found.1, found.2))
      (in_cases image.0 (images keys behind) other c)

  module _ (one : (key other another : KeyNumber) → R key other → R key another
      → other ≡ another) where
    -- what a key is renamed to is an image
    pub to_images : (keys : List KeyNumber) (f : Renaming R keys) (key other : KeyNumber)
        → Contains keys key → R key other → Contains (images keys f) other
    to_images [] f key other c r = absurd (in_none key c)
    to_images (first ∷ keys) f key other c r =
        let image = f first (in_head first keys) in
        let behind = λ (k : KeyNumber) (d : Contains keys k). f k (in_tail first keys k d) in
        ⊎_elim (λ head. subst (Contains (image.0 ∷ images keys behind))
        (one key image.0 other (subst (λ k. R k image.0) head image.1) r)
        (in_head image.0 (images keys behind)))
        (λ later. in_tail image.0 (images keys behind) other (to_images keys behind key other later r))
        (in_cases first keys key c)

  module _ (back : (key other another : KeyNumber) → R other key → R another key
      → other ≡ another) where
    false_unless : (b : Bool) → (b ≡ true → ⊥) → b ≡ false
    false_unless true h = absurd (h refl)
    false_unless false h = refl

    each_unlike : (key : KeyNumber) (keys : List KeyNumber) (other : KeyNumber)
        → AllByRecursion (λ k. same_key key k ≡ false) keys → Contains keys other
        → same_key key other ≡ false
    each_unlike key [] other all c = absurd (in_none other c)
    each_unlike key (k ∷ ks) other all c =
        ⊎_elim (λ head. subst (λ q. same_key key q ≡ false) head all.0)
        (λ later. each_unlike key ks other all.1 later) (in_cases k ks other c)

    -- an image of a key that no later one is like is like no later image
    unlike_images : (key image other : KeyNumber) (keys : List KeyNumber)
        → AllByRecursion (λ k. same_key key k ≡ false) keys → R key image
        → (later : KeyNumber) → Contains keys later → R later other → same_key image other ≡ false
    unlike_images key image other keys all r later c s =
        false_unless (same_key image other) (λ e.
        let is : image ≡ other = (same_key-Decides image other).0 e in
        let same : key ≡ later = back other key later (subst (R key) is r) s in
        let like : same_key key later ≡ true = (same_key-Decides key later).1 same in
        let unlike : same_key key later ≡ false = each_unlike key keys later all c in
        let clash : true ≡ false = sym like ∙ unlike in
        cc)

    pub images_distinct : (keys : List KeyNumber) (f : Renaming R keys) → IsDistinct same_key keys
        → IsDistinct same_key (images keys f)
    unfolding IsDistinct
    images_distinct [] f distinct = tt
    images_distinct (key ∷ keys) f distinct =
        let image = f key (in_head key keys) in
        let behind = λ (k : KeyNumber) (d : Contains keys k). f k (in_tail key keys k d) in
        IsDistinct-cons same_key image.0 (images keys behind)
        (all_unlike same_key same_key-Decides image.0 (images keys behind) (λ other c.
        let found = of_images keys behind other c in
        unlike_images key image.0 other keys distinct.0 image.1 found.0 found.1 found.2))
        (images_distinct keys behind distinct.1)
