-- The line of the provenance that an envelope is.
use Rattle.std.proofs.Common.{◌≡◌, ◌+◌, ℕ, zero, suc, List, [], ◌∷◌, take}
use Rattle.std.proofs.Common.{Some, Contains, inl, inr, ⊎_elim, refl, sym, subst}
use Rattle.std.proofs.Common.{slice_get, arith}
use Rattle.std.proofs.lemmas.Option.{same_Some}
use Rattle.it_base.proofs.Members.{in_cases, in_head, in_none, in_tail}
use Rattle.it_dsse.specs.Envelope.{EnvelopeOf}
use Rattle.it_dsse.specs.declared.envelope.Envelope.{Envelope}
use Rattle.it_chain.proofs.Documents.{envelope_same}
use Rattle.it_prov.specs.ProvenanceLines.{AreReadFrom}

-- the envelope at an index is that of the line at a place, and those of the lines before it are
-- those before the index
pub record IsReadAt (first : ℕ) (lines : List (List ℕ)) (envelopes : List Envelope) (i : ℕ)
    (envelope : Envelope) (place : ℕ) : Type 0 where
  pub index : ℕ
  pub line : List ℕ
  pub place_is : place ≡ first + index
  pub stands : slice_get lines index ≡ Some line
  pub reads : EnvelopeOf line envelope
  pub before : (earlier : List ℕ) (other : Envelope) → Contains (take index lines) earlier
      → EnvelopeOf earlier other → Contains (take i envelopes) other

module _ (first : ℕ) (line : List ℕ) (lines : List (List ℕ)) where
  -- the first line
  at_first : (envelope : Envelope) (others : List Envelope) → EnvelopeOf line envelope
      → IsReadAt first (line ∷ lines) (envelope ∷ others) 0 envelope first
  at_first envelope others reads = record {
    index = 0;
    line = line;
    place_is = omega arith;
    stands = refl;
    reads = reads;
    before = λ earlier other c. absurd (in_none earlier c);
  }

  -- behind a line that is an envelope
  behind : (head : Envelope) (others : List Envelope) (i : ℕ) (envelope : Envelope) (place : ℕ)
      → EnvelopeOf line head → IsReadAt (suc first) lines others i envelope place
      → IsReadAt first (line ∷ lines) (head ∷ others) (suc i) envelope place
  behind head others i envelope place reads at = record {
    index = suc at.index;
    line = at.line;
    place_is = let is = at.place_is in omega (arith, is);
    stands = at.stands;
    reads = at.reads;
    before = λ earlier other c is. elim (in_cases line (take at.index lines) earlier c) [
      | inl same ↦ subst (Contains (head ∷ take i others))
          (envelope_same earlier head other (subst (λ t. EnvelopeOf t head) same reads) is)
          (in_head head (take i others))
      | inr later ↦ in_tail head (take i others) other (at.before earlier other later is)
    ];
  }

  -- behind one that is none
  past : (envelopes : List Envelope) (i : ℕ) (envelope : Envelope) (place : ℕ)
      → ((other : Envelope) → ¬ EnvelopeOf line other)
      → IsReadAt (suc first) lines envelopes i envelope place
      → IsReadAt first (line ∷ lines) envelopes i envelope place
  past envelopes i envelope place none at = record {
    index = suc at.index;
    line = at.line;
    place_is = let is = at.place_is in omega (arith, is);
    stands = at.stands;
    reads = at.reads;
    before = λ earlier other c is. elim (in_cases line (take at.index lines) earlier c) [
      | inl same ↦ absurd (none other (subst (λ t. EnvelopeOf t other) (sym same) is))
      | inr later ↦ at.before earlier other later is
    ];
  }

-- behind the first line, given what is so of the later ones
read_head : (first : ℕ) (line : List ℕ) (lines : List (List ℕ)) (head : Envelope)
    (others : List Envelope) (later : List ℕ) → EnvelopeOf line head
    → ((j : ℕ) (e : Envelope) (p : ℕ) → slice_get others j ≡ Some e → slice_get later j ≡ Some p
    → IsReadAt (suc first) lines others j e p) → (i : ℕ) (envelope : Envelope) (place : ℕ)
    → slice_get (head ∷ others) i ≡ Some envelope → slice_get (first ∷ later) i ≡ Some place
    → IsReadAt first (line ∷ lines) (head ∷ others) i envelope place
read_head first line lines head others later reads rest zero envelope place here there =
    subst (λ e. IsReadAt first (line ∷ lines) (head ∷ others) 0 e place)
    (same_Some head envelope here)
    (subst (λ p. IsReadAt first (line ∷ lines) (head ∷ others) 0 head p)
    (same_Some first place there) (at_first first line lines head others reads))
read_head first line lines head others later reads rest (suc i) envelope place here there =
    behind first line lines head others i envelope place reads
    (rest i envelope place here there)

pub read_at : (first : ℕ) (lines : List (List ℕ)) (envelopes : List Envelope) (places : List ℕ)
    → AreReadFrom first lines envelopes places → (i : ℕ) (envelope : Envelope) (place : ℕ)
    → slice_get envelopes i ≡ Some envelope → slice_get places i ≡ Some place
    → IsReadAt first lines envelopes i envelope place
read_at first [] envelopes places are i envelope place here there =
    absurd (let none : slice_get {X = Envelope} [] i ≡ Some envelope =
    subst (λ es. slice_get es i ≡ Some envelope) are.0 here in cc)
read_at first (line ∷ lines) envelopes places are i envelope place here there = ⊎_elim
    (λ x. subst (λ es. IsReadAt first (line ∷ lines) es i envelope place) (sym x.4)
    (read_head first line lines x.0 x.1 x.2 x.3
    (λ j e p. read_at (suc first) lines x.1 x.2 x.6 j e p) i envelope place
    (subst (λ es. slice_get es i ≡ Some envelope) x.4 here)
    (subst (λ ps. slice_get ps i ≡ Some place) x.5 there)))
    (λ x. past first line lines envelopes i envelope place x.0
    (read_at (suc first) lines envelopes places x.1 i envelope place here there)) are
