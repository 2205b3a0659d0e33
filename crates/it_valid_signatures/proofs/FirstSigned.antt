-- The first signature that is valid for a key, where there is one.
use Rattle.std.proofs.Common.{◌≡◌, ◌⊎◌, ◌+◌, ◌<◌, ◌++◌, ◌∙◌, ℕ, zero, suc, List, [], ◌∷◌, All, Bor}
use Rattle.std.proofs.Common.{Contains, Option, None, Some, arith, get_or, inl, inr, length, map}
use Rattle.std.proofs.Common.{refl, subst, sym, take}
use Rattle.std.specs.List.{slice_get}
use Rattle.std.proofs.lemmas.Bool.{cases_Bool}
use Rattle.std.proofs.lemmas.List.{map-append, take_more}
use Rattle.std.proofs.lemmas.Option.{same_Some}
use Rattle.std.proofs.lemmas.List.Elements.{All-cons, All-contains, All-nil}
use Rattle.it_base.specs.Finds.{Finds}
use Rattle.it_base.proofs.Members.{in_head, in_tail}
use Rattle.it_dsse.specs.Panel.{KeyNumber, Panel}
use Rattle.it_dsse.specs.Signed.{AreThose, Signed, Vouches, is_admitted, message_of}
use Rattle.it_dsse.specs.declared.envelope.Envelope.{Envelope}
use Rattle.it_dsse.specs.declared.envelope.Signature.{Signature}
use Rattle.it_dsse.specs.declared.key_object.KeyObject.{KeyObject}
use Rattle.it_dsse.proofs.Keeping.{keep_last, pass_last}
use Rattle.it_valid_signatures.specs.FirstPlace.{IsFirstPlace, IsSignedAt}

-- what stands at a place stands in the list
pub in_place : {X : Type 0} (xs : List X) (i : ℕ) (x : X) → slice_get xs i ≡ Some x
    → Contains xs x
in_place [] i x e = absurd (cc e)
in_place (y ∷ ys) zero x e =
    let same : y ≡ x = cc e in subst (Contains (y ∷ ys)) same (in_head y ys)
in_place (y ∷ ys) (suc i) x e = in_tail y ys x (in_place ys i x e)

-- the elements so far that are kept, with one more, or passed by one more
module _ {X : Type 0} (P : X → Type 0) (xs : List X) (i : ℕ) (x : X) (kept : List (Bor X)) where
  abbrev lent : Bor X → X
  lent one = one.now

  pub keep_one : (one : Bor X) → i < length xs → x ≡ get_or xs i x → one.now ≡ x → P x
      → AreThose P (take i xs) (map (λ (b : Bor X). b.now) kept)
      → AreThose P (take (i + 1) xs) (map (λ (b : Bor X). b.now) (kept ++ one ∷ []))
  keep_one one below here same p so_far =
      rw (take_more xs i x below, ← here, map-append lent kept (one ∷ []), same)
      (keep_last P (take i xs) (map lent kept) x so_far p)

  pub pass_one : i < length xs → x ≡ get_or xs i x → ¬ P x
      → AreThose P (take i xs) (map (λ (b : Bor X). b.now) kept)
      → AreThose P (take (i + 1) xs) (map (λ (b : Bor X). b.now) kept)
  pass_one below here not so_far =
      rw (take_more xs i x below, ← here) (pass_last P (take i xs) (map lent kept) x so_far not)

-- whether a signature vouches is decided
vouches_or_not : (panel : Panel) (id : List ℕ) (n : KeyNumber) (message : List ℕ)
    (signature : Signature)
    → Vouches panel id n message signature ⊎ ¬ Vouches panel id n message signature
vouches_or_not panel id n message signature =
    elim (cases_Bool (is_admitted id signature)) [
      | inl admitted ↦ elim (cases_Bool (panel.is_valid n message signature.sig)) [
        | inl valid ↦ inl (record { admitted = admitted; valid = valid })
        | inr not ↦ inr (λ v. let is = v.valid in absurd (cc (is, not)))
      ]
      | inr not ↦ inr (λ v. let is = v.admitted in absurd (cc (is, not)))
    ]

module _ (P : Signature → Type 0) where
  abbrev First : List Signature → ℕ → Type 0
  First = IsFirstPlace P

  -- the first signature for which P holds, or none
  first_of : ((signature : Signature) → P signature ⊎ ¬ P signature)
      → (signatures : List Signature)
      → ((place : ℕ) × First signatures place) ⊎ All (λ s. ¬ P s) signatures
  first_of decide [] = inr (All-nil (λ s. ¬ P s))
  first_of decide (s ∷ rest) = elim (decide s) [
    | inl here ↦ inl (
      1,
      record {
        index = 0;
        place_is = refl;
        signature = s;
        stands = refl;
        holds = here;
        none_before = All-nil (λ s. ¬ P s);
      },
    )
    | inr not ↦ elim (first_of decide rest) [
      | inl found ↦
          let first = found.1 in
          let next : suc found.0 ≡ suc first.index + 1 = omega (arith, first.place_is) in inl (
            suc found.0,
            record {
              index = suc first.index;
              place_is = next;
              signature = first.signature;
              stands = first.stands;
              holds = first.holds;
              none_before = All-cons (λ s. ¬ P s) s (take first.index rest) not
                  first.none_before;
            },
          )
      | inr none ↦ inr (All-cons (λ s. ¬ P s) s rest not none)
    ]
  ]

  -- no place, where P holds for none
  pub no_place : (signatures : List Signature) → All (λ s. ¬ P s) signatures → (place : ℕ)
      → ¬ First signatures place
  no_place signatures none place first =
      All-contains (λ s. ¬ P s) signatures first.signature none
      (in_place signatures first.index first.signature first.stands) first.holds

module _ (panel : Panel) (envelope : Envelope) (id : List ℕ) (object : KeyObject) where
  -- where a first signature stands, the key signed the envelope
  pub placed_signed : (place : ℕ) (at : IsSignedAt panel envelope id object place)
      → Signed panel envelope id object at.n
  placed_signed place at =
      let first = at.first in
      let stands = in_place envelope.signatures first.index first.signature first.stands in
      record {
        key = at.key;
        signature = (stands.0, first.signature, stands.1, stands.2, first.holds);
      }

  -- and where the key signed it, a first signature stands
  pub signed_placed : (n : KeyNumber) → Signed panel envelope id object n
      → (place : ℕ) × IsSignedAt panel envelope id object place
  signed_placed n signed =
      let P = Vouches panel id n (message_of envelope) in
      let some = signed.signature in
      elim (first_of P (vouches_or_not panel id n (message_of envelope)) envelope.signatures) [
        | inl found ↦ (found.0, record { n = n; key = signed.key; first = found.1 })
        | inr none ↦ absurd (All-contains (λ s. ¬ P s) envelope.signatures some.1 none
            (some.0, some.2, some.3) some.4)
      ]

  -- what is found for a key that is known
  pub found_signed : (n : KeyNumber) → Some n ≡ panel.key_of id object → (found : Option ℕ)
      → Finds (IsFirstPlace (Vouches panel id n (message_of envelope)) envelope.signatures) found
      → Finds (IsSignedAt panel envelope id object) found
  found_signed n key None none = λ place at. none place
      (subst (λ (m : KeyNumber). IsFirstPlace (Vouches panel id m (message_of envelope))
      envelope.signatures place) (same_Some at.n n (sym at.key ∙ sym key)) at.first)
  found_signed n key (Some place) first = record { n = n; key = sym key; first = first }
