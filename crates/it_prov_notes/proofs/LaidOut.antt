-- Whether some line is an envelope, by the envelopes that were read.
use Rattle.std.proofs.Common.{◌≡◌, ◌∙◌, ◌≢◌, ℕ, zero, suc, List, [], ◌∷◌, Any, ⊎_elim, arith, refl}
use Rattle.std.proofs.Common.{sym}
use Rattle.it_dsse.specs.declared.envelope.Envelope.{Envelope}
use Rattle.it_prov.specs.ProvenanceLines.{AreReadFrom}
use Rattle.it_prov_notes.specs.LaidOut.{IsAnEnvelope}

module _ (P : List ℕ → Type 0) where
  any_later : (line : List ℕ) (lines : List (List ℕ)) → Any P lines → Any P (line ∷ lines)
  any_later line lines (k, x, below, at, p) = (suc k, x, omega (arith, below), at, p)

  any_of_rest : (line : List ℕ) (lines : List (List ℕ)) → ¬ P line → Any P (line ∷ lines)
      → Any P lines
  any_of_rest line lines none (zero, x, below, at, p) = absurd (none (rw at p))
  any_of_rest line lines none (suc k, x, below, at, p) = (k, x, omega (arith, below), at, p)

-- no envelope was read
pub none_read : (first : ℕ) (lines : List (List ℕ)) (envelopes : List Envelope) (places : List ℕ)
    → AreReadFrom first lines envelopes places → envelopes ≡ [] → ¬ Any IsAnEnvelope lines
none_read first [] envelopes places are none (k, x, below, at, p) = absurd (omega (arith, below))
none_read first (line ∷ lines) envelopes places are none any = ⊎_elim
    (λ x. let never : [] ≡ x.0 ∷ x.1 = sym none ∙ x.4 in cc)
    (λ x. none_read (suc first) lines envelopes places x.1 none
    (any_of_rest IsAnEnvelope line lines (λ is. x.0 is.0 is.1) any)) are

-- some envelope was
pub some_read : (first : ℕ) (lines : List (List ℕ)) (envelopes : List Envelope) (places : List ℕ)
    → AreReadFrom first lines envelopes places → envelopes ≢ [] → Any IsAnEnvelope lines
some_read first [] envelopes places are some = absurd (some are.0)
some_read first (line ∷ lines) envelopes places are some = ⊎_elim
    (λ x. (0, line, omega arith, refl, (x.0, x.3)))
    (λ x. any_later IsAnEnvelope line lines
    (some_read (suc first) lines envelopes places x.1 some)) are
