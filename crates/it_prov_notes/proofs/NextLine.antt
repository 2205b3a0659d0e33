-- The next line of the provenance, and the envelopes of the lines that are left.
use Rattle.std.proofs.Common.{◌≡◌, ◌∙◌, ◌+◌, ◌≤◌, ◌≢◌, ℕ, suc, List, [], ◌∷◌, ⊎_elim, arith, sym}
use Rattle.std.proofs.Common.{subst}
use Rattle.it_dsse.specs.Envelope.{EnvelopeOf}
use Rattle.it_dsse.specs.declared.envelope.Envelope.{Envelope}
use Rattle.it_prov.specs.ProvenanceLines.{AreReadFrom}
use Rattle.it_prov_notes.specs.declared.lines_left.LinesLeft.{LinesLeft}

same_head : {X : Type 0} (x y : X) (xs ys : List X) → x ∷ xs ≡ y ∷ ys → x ≡ y
same_head x y xs ys e = cc

same_tail : {X : Type 0} (x y : X) (xs ys : List X) → x ∷ xs ≡ y ∷ ys → xs ≡ ys
same_tail x y xs ys e = cc

no_head : {X : Type 0} (xs : List X) (y : X) (ys : List X) → xs ≡ [] → xs ≢ y ∷ ys
no_head xs y ys none some = let never : [] ≡ y ∷ ys = sym none ∙ some in cc

-- no place is before the first line
at_or_after : (first : ℕ) (lines : List (List ℕ)) (envelopes : List Envelope) (places : List ℕ)
    → AreReadFrom first lines envelopes places → (place : ℕ) (later : List ℕ)
    → places ≡ place ∷ later → first ≤ place
at_or_after first [] envelopes places are place later is =
    absurd (no_head places place later are.1 is)
at_or_after first (line ∷ lines) envelopes places are place later is = ⊎_elim
    (λ x. let same = same_head first place x.2 later (sym x.5 ∙ is) in omega (arith, same))
    (λ x. let after = at_or_after (suc first) lines envelopes places x.1 place later is in
    omega (arith, after)) are

module _ (first : ℕ) (line : List ℕ) (lines : List (List ℕ)) (envelopes : List Envelope)
    (places : List ℕ) (are : AreReadFrom first (line ∷ lines) envelopes places) where
  -- the next place is not that of the first line
  pub other_next : (place : ℕ) (later : List ℕ) → places ≡ place ∷ later → place ≢ first
      → ((envelope : Envelope) → ¬ EnvelopeOf line envelope)
      × AreReadFrom (suc first) lines envelopes places
  other_next place later is other = ⊎_elim
      (λ x. absurd (other (same_head place first later x.2 (sym is ∙ x.5)))) (λ x. x) are

  -- it is
  pub is_next : (later : List ℕ) → places ≡ first ∷ later → (envelope : Envelope)
      (others : List Envelope) → envelopes ≡ envelope ∷ others
      → EnvelopeOf line envelope × AreReadFrom (suc first) lines others later
  is_next later is envelope others some = ⊎_elim
      (λ x. (
        subst (EnvelopeOf line) (same_head x.0 envelope x.1 others (sym x.4 ∙ some)) x.3,
        subst (λ es. AreReadFrom (suc first) lines es later)
            (same_tail x.0 envelope x.1 others (sym x.4 ∙ some))
            (subst (λ ps. AreReadFrom (suc first) lines x.1 ps)
            (same_tail first first x.2 later (sym x.5 ∙ is)) x.6),
      ))
      (λ x. let after = at_or_after (suc first) lines envelopes places x.1 first later is in
      absurd (omega (arith, after))) are

-- after so many lines and one more
pub later_left : (number : ℕ) (lines : List (List ℕ)) (left : LinesLeft)
    → AreReadFrom (suc (number + 1)) lines left.envelopes.now left.places.now
    → AreReadFrom (number + 1 + 1) lines left.envelopes.now left.places.now
later_left number lines left are =
    let same : suc (number + 1) ≡ number + 1 + 1 = omega arith in
    subst (λ first. AreReadFrom first lines left.envelopes.now left.places.now) same are
