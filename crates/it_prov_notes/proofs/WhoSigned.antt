-- Those of the expected builders that signed an envelope.
use Rattle.std.proofs.Common.{◌≡◌, List, [], ◌∷◌, length, Bor, inl}
use Rattle.std.proofs.Common.{Contains, inr, sym, subst, arith}
use Rattle.it_base.proofs.Members.{in_cases, in_head, in_none, in_tail}
use Rattle.it_dsse.specs.Panel.{Panel}
use Rattle.it_dsse.specs.Signed.{AreThose}
use Rattle.it_dsse.specs.declared.envelope.Envelope.{Envelope}
use Rattle.it_docs.specs.declared.policy.Builder.{Builder}
use Rattle.it_docs.specs.declared.policy.Expectation.{Expectation}
use Rattle.it_prov.specs.Meets.{SignedByBuilder}
use Rattle.it_prov_notes.specs.ProvenanceNotes.{HasSigned, NoneSigned}
use Rattle.it_prov_notes.specs.inside.Judged.{AreSigners, lent_builders}

-- what is kept of a list is in it and is such
pub kept_is : {X : Type 0} (P : X → Type 0) (xs kept : List X) (x : X) → AreThose P xs kept
    → Contains kept x → Contains xs x × P x
kept_is P [] kept x are c = absurd (in_none x (subst (λ l. Contains l x) are c))
kept_is P (y ∷ xs) kept x (inl h) c = elim (in_cases y h.1.0 x
    (subst (λ l. Contains l x) h.1.1 c)) [
      | inl same ↦ (subst (Contains (y ∷ xs)) same (in_head y xs), subst P same h.0)
      | inr later ↦ let k = kept_is P xs h.1.0 x h.1.2 later in (in_tail y xs x k.0, k.1)
    ]
kept_is P (y ∷ xs) kept x (inr h) c =
    let k = kept_is P xs kept x h.1 c in (in_tail y xs x k.0, k.1)

-- what is such is kept
pub is_kept : {X : Type 0} (P : X → Type 0) (xs kept : List X) (x : X) → AreThose P xs kept
    → Contains xs x → P x → Contains kept x
is_kept P [] kept x are c p = absurd (in_none x c)
is_kept P (y ∷ xs) kept x (inl h) c p = subst (λ l. Contains l x) (sym h.1.1)
    (elim (in_cases y xs x c) [
      | inl same ↦ subst (Contains (y ∷ h.1.0)) same (in_head y h.1.0)
      | inr later ↦ in_tail y h.1.0 x (is_kept P xs h.1.0 x h.1.2 later p)
    ])
is_kept P (y ∷ xs) kept x (inr h) c p = elim (in_cases y xs x c) [
  | inl same ↦ absurd (h.0 (subst P (sym same) p))
  | inr later ↦ is_kept P xs kept x h.1 later p
]

-- what a lent builder is stands among what lent builders are, and the other way round
lent_in : (lent : List (Bor Builder)) (b : Bor Builder) → Contains lent b
    → Contains (lent_builders lent) b.now
lent_in [] b c = absurd (in_none b c)
lent_in (x ∷ lent) b c = elim (in_cases x lent b c) [
  | inl same ↦ subst (λ (y : Bor Builder). Contains (x.now ∷ lent_builders lent) y.now) same
      (in_head x.now (lent_builders lent))
  | inr later ↦ in_tail x.now (lent_builders lent) b.now (lent_in lent b later)
]

in_lent : (lent : List (Bor Builder)) (builder : Builder) → Contains (lent_builders lent) builder
    → (b : Bor Builder) × Contains lent b × (b.now ≡ builder)
in_lent [] builder c = absurd (in_none builder c)
in_lent (x ∷ lent) builder c = elim (in_cases x.now (lent_builders lent) builder c) [
  | inl same ↦ (x, in_head x lent, same)
  | inr later ↦ let b = in_lent lent builder later in (b.0, in_tail x lent b.0 b.1, b.2)
]

module _ (panel : Panel) (expectation : Expectation) (envelope : Envelope)
    (signers : List (Bor Builder)) (are : AreSigners panel expectation envelope signers) where
  -- each of them is an expected builder that signed
  pub signer_signed : (b : Bor Builder) → Contains signers b
      → HasSigned panel expectation envelope b.now
  signer_signed b c =
      let k = kept_is (SignedByBuilder panel envelope) expectation.builders
      (lent_builders signers) b.now are (lent_in signers b c) in
      record { is_expected = k.0; signed = k.1 }

  -- each expected builder that signed is one of them
  pub signed_signer : (builder : Builder) → HasSigned panel expectation envelope builder
      → (b : Bor Builder) × Contains signers b × (b.now ≡ builder)
  signed_signer builder h = in_lent signers builder
      (is_kept (SignedByBuilder panel envelope) expectation.builders (lent_builders signers)
      builder are h.is_expected h.signed)

-- where there are none of them, no expected builder signed
pub none_signed : (panel : Panel) (expectation : Expectation) (envelope : Envelope)
    (signers : List (Bor Builder)) → AreSigners panel expectation envelope signers
    → length signers ≡ 0 → NoneSigned panel expectation envelope
none_signed panel expectation envelope signers are none builder c signed =
    let b = signed_signer panel expectation envelope signers are builder
    (record { is_expected = c; signed = signed }) in
    omega (arith, (b.1).1, none)
