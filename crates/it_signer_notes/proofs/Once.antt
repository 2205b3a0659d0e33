-- Identities that were seen, in a set of borrowed names and issuers.
use Rattle.std.proofs.Common.{◌≡◌, ◌∙◌, ◌&&◌, ◌||◌, ◌++◌, ◌∷◌, [], ℕ, ◌+◌, ◌<◌, List, Bool, true}
use Rattle.std.proofs.Common.{false, Bor, Ordering, Less, Equal, Greater, ap, cond, get_or, is_eq}
use Rattle.std.proofs.Common.{length, map, nat_cmp, not, refl, reverse, sym, take}
use Rattle.std.specs.BTreeSet.{BTreeSet, contains}
use Rattle.std.specs.Cmp.Lexicographic.{slice_cmp}
use Rattle.std.specs.Ordering.{ordering_then}
use Rattle.std.specs.Set.{is_member, unique_keys}
use Rattle.std.specs.Str.{bytes_eq}
use Rattle.std.proofs.lemmas.Cmp.{nat_list_eq_equiv}
use Rattle.std.proofs.lemmas.List.{map-append, map_more, reverse-append}
use Rattle.std.proofs.lemmas.Map.Text.{is_eq-slice_cmp}
use Rattle.it_docs.proofs.RepeatsSeen.{was_new, was_seen}
use Rattle.it_identity.specs.declared.identity.Identity.{Identity}
use Rattle.it_vouched.specs.declared.vouched.Vouched.{Vouched}
use Rattle.it_signer_notes.specs.Signers.{is_same}
use Rattle.it_signer_notes.specs.inside.Lent.{lent}

abbrev pub Texts : Type 0
Texts = Bor (List ℕ) × Bor (List ℕ)

abbrev pub texts_cmp : Texts → Texts → Ordering
texts_cmp x y =
    ordering_then (slice_cmp nat_cmp x.0.now y.0.now) (slice_cmp nat_cmp x.1.now y.1.now)

-- the identity of a name and an issuer
abbrev pub identity_of : Texts → Identity
identity_of texts = record { name = texts.0.now; issuer = texts.1.now }

-- the identities of the first lines, the last one first
abbrev pub from_behind : ℕ → List Vouched → List Identity
from_behind count vouched = reverse (map (λ v. v.identity) (take count vouched))

-- the set has these identities
abbrev pub HasIdentities : List Identity → BTreeSet Texts → Type 0
HasIdentities identities seen =
    (q : Texts) → contains texts_cmp seen q ≡ is_member is_same identities (identity_of q)

-- one line more
pub one_more : (i : ℕ) (vouched : List Vouched) (v : Vouched) → i < length vouched
    → v ≡ get_or vouched i v → from_behind (i + 1) vouched ≡ v.identity ∷ from_behind i vouched
one_more i vouched v below is =
    ap reverse (map_more (λ v. v.identity) vouched i v below)
    ∙ reverse-append (map (λ v. v.identity) (take i vouched)) ((get_or vouched i v).identity ∷ [])
    ∙ ap (λ (x : Vouched). x.identity ∷ from_behind i vouched) (sym is)

both_equal : (a b : Ordering) → is_eq (ordering_then a b) ≡ (is_eq a && is_eq b)
both_equal Less b = refl
both_equal Equal b = refl
both_equal Greater b = refl

same_texts : (x y : Texts) → is_eq (texts_cmp x y) ≡ is_same (identity_of y) (identity_of x)
same_texts x y =
    both_equal (slice_cmp nat_cmp x.0.now y.0.now) (slice_cmp nat_cmp x.1.now y.1.now)
    ∙ ap (λ b. b && is_eq (slice_cmp nat_cmp x.1.now y.1.now))
    (is_eq-slice_cmp x.0.now y.0.now ∙ nat_list_eq_equiv.symm x.0.now y.0.now)
    ∙ ap (λ b. bytes_eq y.0.now x.0.now && b)
    (is_eq-slice_cmp x.1.now y.1.now ∙ nat_list_eq_equiv.symm x.1.now y.1.now)

or_first : (a b c : Bool) → a ≡ b → cond a true c ≡ (b || c)
or_first true b c e = rw (sym e) refl
or_first false b c e = rw (sym e) refl

-- one more identity, which stands before the others
module _ (others identities : List Identity) (k : Texts)
    (are : identity_of k ∷ others ≡ identities) (seen : BTreeSet Texts)
    (has : HasIdentities others seen) where
  pub seen_more : (new : BTreeSet Texts)
      → ((q : Texts) → contains texts_cmp new q
      ≡ cond (is_eq (texts_cmp k q)) true (contains texts_cmp seen q))
      → HasIdentities identities new
  seen_more new updates = λ q.
      updates q ∙ or_first (is_eq (texts_cmp k q)) (is_same (identity_of q) (identity_of k))
      (contains texts_cmp seen q) (same_texts k q)
      ∙ ap (λ b. is_same (identity_of q) (identity_of k) || b) (has q)
      ∙ ap (λ ids. is_member is_same ids (identity_of q)) are

  -- one that is new in the set comes to the others, and one that is not does not
  module _ (added : Bool) (is : added ≡ not (contains texts_cmp seen k))
      (once : List (Bor Identity)) (before : lent once ≡ reverse (unique_keys is_same others)) where
    abbrev kept : Bool → List Identity
    kept again =
        reverse (cond again (unique_keys is_same others)
        (identity_of k ∷ unique_keys is_same others))

    kept_is : (again : Bool) → is_member is_same others (identity_of k) ≡ again
        → kept again ≡ reverse (unique_keys is_same identities)
    kept_is again is_again =
        ap kept (sym is_again) ∙ ap (λ ids. reverse (unique_keys is_same ids)) are

    pub once_more : (reference : Bor Identity) → reference.now ≡ identity_of k → added ≡ true
        → lent (once ++ reference ∷ []) ≡ reverse (unique_keys is_same identities)
    once_more reference same new =
        map-append (λ x. x.now) once (reference ∷ [])
        ∙ ap (λ l. l ++ reference.now ∷ []) before
        ∙ ap (λ x. reverse (unique_keys is_same others) ++ x ∷ []) same
        ∙ sym (reverse-append (identity_of k ∷ []) (unique_keys is_same others))
        ∙ kept_is false (sym (has k) ∙ was_new added (contains texts_cmp seen k) is new)

    pub once_less : added ≡ false → lent once ≡ reverse (unique_keys is_same identities)
    once_less old =
        before ∙ kept_is true (sym (has k) ∙ was_seen added (contains texts_cmp seen k) is old)
