-- Meters that are raised by one call after another.
use Rattle.std.proofs.Common.{◌≡◌, ℕ, zero, suc, ◌+◌, ◌<◌, ◌≤◌, List, [], ◌∷◌, ◌++◌, length, get_or}
use Rattle.std.proofs.Common.{take, refl, sym, ap, subst, arith, ◌∙◌}
use Rattle.std.specs.List.{sum_by}
use Rattle.std.proofs.lemmas.List.{take_more}
use Rattle.std.proofs.lemmas.List.Sums.{sum_by-cons}
use Rattle.it_base.specs.Sum.{IsSum}
use Rattle.it_dsse.specs.Panel.{KeyNumber, Panel}
use Rattle.it_dsse.specs.Meter.{RaisedBy, raised}
use Rattle.it_dsse.specs.Signed.{Signed, tries}
use Rattle.it_dsse.specs.declared.key_object.KeyObject.{KeyObject}
use Rattle.it_dsse.specs.declared.meter.Meter.{Meter}
use Rattle.it_dsse.proofs.Tries.{signed_tries, tries_at_most}
use Rattle.it_dsse.proofs.Trying.{raised-zero, raised_more}
use Rattle.it_chain.specs.Raised.{RaisedAtLeast, RaisedWithin}
use Rattle.it_chain.specs.inside.Asked.{SignaturesIn}
use Rattle.it_dsse.specs.declared.envelope.Envelope.{Envelope}

pub within_none : (Most : ℕ → Type 0) (old new : Meter) → new ≡ old → RaisedWithin 0 Most old new
within_none Most old new same = (0, (omega arith, λ n h. omega arith), same ∙ sym (raised-zero old))

pub within_weaker : (least l : ℕ) (P Q : ℕ → Type 0) (old new : Meter) → least ≤ l
    → ((n : ℕ) → Q n → (m : ℕ) × P m × (m ≤ n)) → RaisedWithin l P old new
    → RaisedWithin least Q old new
within_weaker least l P Q old new less more h = (
  h.0,
  (
    omega (arith, h.1.0),
    λ n q. let m = more n q in let most : h.0 ≤ m.0 = h.1.1 m.0 m.1 in
        omega (arith, m.2),
  ),
  h.2,
)

pub within_least : (least l : ℕ) (Most : ℕ → Type 0) (old new : Meter) → least ≤ l
    → RaisedWithin l Most old new → RaisedWithin least Most old new
within_least least l Most old new less = within_weaker least l Most Most old new less
    (λ n h. (n, h, omega arith))

pub within_then : (l k least : ℕ) (P Q R : ℕ → Type 0) (old now new : Meter) → least ≤ l + k
    → ((n : ℕ) → R n → (a : ℕ) × (b : ℕ) × P a × Q b × (a + b ≤ n))
    → RaisedWithin l P old now → RaisedWithin k Q now new → RaisedWithin least R old new
within_then l k least P Q R old now new less parts h j = (
  h.0 + j.0,
  (
    omega (arith, h.1.0, j.1.0),
    λ n r. let p = parts n r in let a : h.0 ≤ p.0 = h.1.1 p.0 p.2 in let b : j.0 ≤ p.1 =
        j.1.1 p.1 p.3 in omega (arith, p.4),
  ),
  j.2 ∙ ap (λ m. raised m j.0) h.2 ∙ raised_more old h.0 j.0,
)

-- ---- calls in a loop
module _ {X : Type 0} (ChainCosts : X → ℕ → Type 0) where
  pub sum_last : (xs : List X) (x : X) (n : ℕ) → IsSum ChainCosts (xs ++ x ∷ []) n → (a : ℕ)
      × (b : ℕ) × IsSum ChainCosts xs a × ChainCosts x b × (n ≡ a + b)
  sum_last [] x n h = (0, h.0, refl, h.2, omega (arith, h.3, h.4))
  sum_last (y ∷ ys) x n h =
      let rest = sum_last ys x h.1 h.3 in
      (h.0 + rest.0, rest.1, (h.0, rest.0, h.2, rest.2, refl), rest.3, omega (arith, h.4, rest.4))

  sum_at : (xs : List X) (i : ℕ) (d : X) (n : ℕ) → i < length xs → IsSum ChainCosts xs n → (a : ℕ)
      × (b : ℕ) × IsSum ChainCosts (take i xs) a × ChainCosts (get_or xs i d) b × (a + b ≤ n)
  sum_at [] i d n below h = absurd (omega (arith, below))
  sum_at (x ∷ xs) zero d n below h = (0, h.0, refl, h.2, omega (arith, h.4))
  sum_at (x ∷ xs) (suc i) d n below h =
      let rest = sum_at xs i d h.1 (omega (arith, below)) h.3 in
      (h.0 + rest.0, rest.1, (h.0, rest.0, h.2, rest.2, refl), rest.3, omega (arith, h.4, rest.4))

  module _ (xs : List X) (i : ℕ) (x : X) (below : i < length xs) (here : x ≡ get_or xs i x) where
    next_of : (n : ℕ) → IsSum ChainCosts (take (i + 1) xs) n → (a : ℕ) × (b : ℕ)
        × IsSum ChainCosts (take i xs) a × ChainCosts x b × (a + b ≤ n)
    next_of n h =
        let parts = sum_last (take i xs) x n
        (subst (λ ys. IsSum ChainCosts ys n) (take_more xs i x below
        ∙ ap (λ y. take i xs ++ y ∷ []) (sym here)) h) in
        (parts.0, parts.1, parts.2, parts.3, omega (arith, parts.4))

    part_of : (n : ℕ) → IsSum ChainCosts xs n → (a : ℕ) × (b : ℕ) × IsSum ChainCosts (take i xs) a
        × ChainCosts x b × (a + b ≤ n)
    part_of n h = let parts = sum_at xs i x n below h in
        (parts.0, parts.1, parts.2, subst (λ y. ChainCosts y parts.1) (sym here) parts.3, parts.4)

    module _ (l k : ℕ) (old now new : Meter)
        (before : RaisedWithin l (IsSum ChainCosts (take i xs)) old now)
        (next : RaisedWithin k (ChainCosts x) now new) where
      pub within_more : (least : ℕ) → least ≤ l + k
          → RaisedWithin least (IsSum ChainCosts (take (i + 1) xs)) old new
      within_more least less = within_then l k least (IsSum ChainCosts (take i xs)) (ChainCosts x)
          (IsSum ChainCosts (take (i + 1) xs)) old now new less next_of before next

      pub within_part : (least : ℕ) → least ≤ l + k
          → RaisedWithin least (IsSum ChainCosts xs) old new
      within_part least less = within_then l k least (IsSum ChainCosts (take i xs)) (ChainCosts x)
          (IsSum ChainCosts xs) old now new less part_of before next

-- ---- the least that is asked
pub least_none : (Least : ℕ → Type 0) (old new : Meter) → ((n : ℕ) → Least n → n ≡ 0) → new ≡ old
    → RaisedAtLeast Least old new
least_none Least old new only same n h = let none = only n h in
    (0, omega (arith, none), same ∙ sym (raised-zero old))

pub least_of : (least : ℕ) (Most : ℕ → Type 0) (old new : Meter) → RaisedWithin least Most old new
    → RaisedAtLeast (λ n. n ≡ least) old new
least_of least Most old new h n is = (h.0, omega (arith, h.1.0, is), h.2)

pub least_weaker : (P Q : ℕ → Type 0) (old new : Meter) → ((n : ℕ) → Q n → (m : ℕ) × P m × (n ≤ m))
    → RaisedAtLeast P old new → RaisedAtLeast Q old new
least_weaker P Q old new more h n q =
    let m = more n q in
    let k = h m.0 m.1 in
    (k.0, omega (arith, m.2, k.1), k.2)

pub least_then : (P Q R : ℕ → Type 0) (old now new : Meter)
    → ((n : ℕ) → R n → (a : ℕ) × (b : ℕ) × P a × Q b × (n ≤ a + b)) → RaisedAtLeast P old now
    → RaisedAtLeast Q now new → RaisedAtLeast R old new
least_then P Q R old now new parts h j n r =
    let p = parts n r in
    let a = h p.0 p.2 in
    let b = j p.1 p.3 in (
      a.0 + b.0,
      omega (arith, p.4, a.1, b.1),
      b.2 ∙ ap (λ m. raised m b.0) a.2
          ∙ raised_more old a.0 b.0,
    )

module _ {X : Type 0} (Least : X → ℕ → Type 0) (old now new : Meter) where
  pub least_push : (xs : List X) (x : X) → RaisedAtLeast (IsSum Least xs) old now
      → RaisedAtLeast (Least x) now new → RaisedAtLeast (IsSum Least (xs ++ x ∷ [])) old new
  least_push xs x = least_then (IsSum Least xs) (Least x) (IsSum Least (xs ++ x ∷ [])) old now new
      (λ n h. let s = sum_last Least xs x n h in (s.0, s.1, s.2, s.3, omega (arith, s.4)))

  pub least_more : (xs : List X) (i : ℕ) (x : X) → i < length xs → x ≡ get_or xs i x
      → RaisedAtLeast (IsSum Least (take i xs)) old now → RaisedAtLeast (Least x) now new
      → RaisedAtLeast (IsSum Least (take (i + 1) xs)) old new
  least_more xs i x below here before next =
      subst (λ ys. RaisedAtLeast (IsSum Least ys) old new)
      (sym (take_more xs i x below ∙ ap (λ y. take i xs ++ y ∷ []) (sym here)))
      (least_push (take i xs) x before next)

-- what a function counts is such a sum
pub sum_of : {X : Type 0} (f : X → ℕ) (xs : List X) → IsSum (λ x n. n ≡ f x) xs (sum_by f xs)
sum_of f [] = refl
sum_of f (x ∷ xs) = (f x, sum_by f xs, refl, sum_of f xs, sum_by-cons f x xs)

-- ---- one key and one envelope after another
module _ (panel : Panel) (id : List ℕ) (object : KeyObject) (all : List Envelope) (i : ℕ)
    (new : Envelope) (below : i < length all) (here : new ≡ get_or all i new)
    (old now next : Meter)
    (least : ℕ) (before : RaisedWithin least (SignaturesIn (take i all)) old now) where
  abbrev OfNew : ℕ → Type 0
  OfNew n = n ≡ length new.signatures

  module _ (counted : next ≡ raised now (tries panel new id object)) where
    of_new : RaisedWithin 0 OfNew now next
    of_new = (
      tries panel new id object,
      (
        omega arith,
        λ n is. let most = tries_at_most panel new id object in
            omega (arith, most, is),
      ),
      counted,
    )

    of_signed : (key : KeyNumber) → Signed panel new id object key
        → RaisedWithin 1 OfNew now next
    of_signed key signed = (
      tries panel new id object,
      (
        signed_tries panel new id object key signed,
        λ n is. let most = tries_at_most panel new id object in omega (arith, most, is),
      ),
      counted,
    )

    -- the next is passed over, or signed too
    pub asked_more : RaisedWithin least (SignaturesIn (take (i + 1) all)) old next
    asked_more = within_more (λ (e : Envelope) n. n ≡ length e.signatures) all i new below
        here least 0 old now next before of_new least (omega arith)

    -- the next is the first that is signed
    pub asked_first : (key : KeyNumber) → Signed panel new id object key
        → RaisedWithin 1 (SignaturesIn (take (i + 1) all)) old next
    asked_first key signed = within_more (λ (e : Envelope) n. n ≡ length e.signatures) all
        i new below here least 1 old now next before (of_signed key signed) 1 (omega arith)

    -- no further one is asked about
    pub asked_last : RaisedWithin 0 (SignaturesIn all) old next
    asked_last = within_part (λ (e : Envelope) n. n ≡ length e.signatures) all i new below
        here least 0 old now next before of_new 0 (omega arith)

  -- the next is not asked about to the end, and no further one
  pub asked_stopped : RaisedBy (λ n. n ≤ tries panel new id object) now next
      → RaisedWithin 0 (SignaturesIn all) old next
  asked_stopped stopped = within_part (λ (e : Envelope) n. n ≡ length e.signatures) all i new below
      here least 0 old now next before (
        stopped.0,
        (
          omega arith,
          λ n is. let most = tries_at_most panel new id object in omega (arith, most, is, stopped.1),
        ),
        stopped.2,
      ) 0 (omega arith)
