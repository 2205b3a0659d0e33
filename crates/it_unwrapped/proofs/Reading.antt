-- What the lines that replace others read as.
use Rattle.std.proofs.Common.{◌≡◌, ◌∙◌, ◌↔◌, ◌⊎◌, ℕ, suc, List, [], ◌∷◌, All, inl, inr, ⊎_elim}
use Rattle.std.proofs.Common.{refl, sym, ap, subst, arith}
use Rattle.it_base.proofs.Documents.{same_document}
use Rattle.it_bundle.specs.Bundle.{BundleOf}
use Rattle.it_bundle.specs.declared.bundle.SigstoreBundle.{SigstoreBundle}
use Rattle.it_bundle.proofs.Same.{bundle_same}
use Rattle.it_chain.proofs.Documents.{envelope_same}
use Rattle.it_dsse.specs.Envelope.{EnvelopeOf, IsEnvelope}
use Rattle.it_dsse.specs.declared.envelope.Envelope.{Envelope}
use Rattle.it_unwrapped.specs.Lines.{AreUnwrapped, IsBundleWith, IsNoBundle, IsUnwrapped}

-- a bundle is no envelope
no_envelope : (line : List ℕ) (bundle : SigstoreBundle) (envelope : Envelope)
    → BundleOf line bundle → ¬ EnvelopeOf line envelope
no_envelope line bundle envelope h k = h.2.no_envelope envelope
    (subst (λ d. IsEnvelope d envelope) (same_document line k.0 h.0 k.1 h.1) k.2)

-- a bundle has one envelope
one_envelope : (line : List ℕ) (x y : Envelope) → IsBundleWith line x → IsBundleWith line y → x ≡ y
one_envelope line x y h k =
    let same = bundle_same line h.bundle k.bundle h.bundle_is k.bundle_is in
    sym h.envelope_is ∙ ap (λ (b : SigstoreBundle). b.envelope) same ∙ k.envelope_is

pub reads_the_same : (line out : List ℕ) → IsUnwrapped line out → (envelope : Envelope)
    → EnvelopeOf out envelope ↔ (EnvelopeOf line envelope ⊎ IsBundleWith line envelope)
reads_the_same line out (inl from) envelope = (
  λ reads. inr (subst (IsBundleWith line)
      (envelope_same out from.envelope envelope from.reads_back reads) from.bundle_is),
  λ is. ⊎_elim (λ reads. absurd (no_envelope line from.bundle_is.bundle envelope
      from.bundle_is.bundle_is reads))
      (λ has. subst (EnvelopeOf out) (one_envelope line from.envelope envelope from.bundle_is has)
      from.reads_back) is,
)
reads_the_same line out (inr stays) envelope = (
  λ reads. inl (subst (λ text. EnvelopeOf text envelope) stays.1 reads),
  λ is. ⊎_elim (λ reads. subst (λ text. EnvelopeOf text envelope) (sym stays.1) reads)
      (λ has. absurd (stays.0 has.bundle has.bundle_is)) is,
)

stays_where : (line out : List ℕ) → IsUnwrapped line out → IsNoBundle line → out ≡ line
stays_where line out (inl from) none = absurd (none from.bundle_is.bundle from.bundle_is.bundle_is)
stays_where line out (inr stays) none = stays.1

pub no_change : (lines out : List (List ℕ)) → AreUnwrapped lines out → All IsNoBundle lines
    → out ≡ lines
no_change [] [] are none = refl
no_change [] (text ∷ out) are none = absurd are
no_change (line ∷ lines) [] are none = absurd are
no_change (line ∷ lines) (text ∷ out) are none =
    let first = stays_where line text are.0 (none 0 line (omega arith)) in
    let others = no_change lines out are.1 (λ k d below. none (suc k) d (omega arith)) in
    λ i. first i ∷ others i
