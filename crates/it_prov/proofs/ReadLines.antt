-- The lines of a provenance, one after another, and the places of those that are envelopes.
use Rattle.std.proofs.Common.{◌≡◌, ◌∙◌, ◌+◌, ◌++◌, ℕ, suc, List, [], ◌∷◌, length}
use Rattle.std.proofs.Common.{inl, inr, ⊎_elim, refl, sym, ap}
use Rattle.std.proofs.Common.{append_assoc, arith, length-append}
use Rattle.it_digest.specs.Sums.{lines_of}
use Rattle.it_dsse.specs.Envelope.{EnvelopeOf}
use Rattle.it_dsse.specs.declared.envelope.Envelope.{Envelope}
use Rattle.it_prov.specs.ProvenanceLines.{AreReadFrom}

-- ---- one line more
read_more : (first : ℕ) (lines : List (List ℕ)) (envelopes : List Envelope) (places : List ℕ)
    (line : List ℕ) (envelope : Envelope) (place : ℕ) → place ≡ first + length lines
    → AreReadFrom first lines envelopes places → EnvelopeOf line envelope
    → AreReadFrom first (lines ++ line ∷ []) (envelopes ++ envelope ∷ []) (places ++ place ∷ [])
read_more first [] envelopes places line envelope place at are reads =
    let same : place ≡ first = omega (arith, at) in
    inl (
      envelope,
      [],
      [],
      reads,
      ap (λ es. es ++ envelope ∷ []) are.0,
      ap (λ ps. ps ++ place ∷ []) are.1 ∙ ap (λ n. n ∷ []) same,
      (refl, refl),
    )
read_more first (l ∷ lines) envelopes places line envelope place at are reads =
    let next : place ≡ suc first + length lines = omega (arith, at) in
    ⊎_elim
    (λ x. inl (
      x.0,
      x.1 ++ envelope ∷ [],
      x.2 ++ place ∷ [],
      x.3,
      ap (λ es. es ++ envelope ∷ []) x.4,
      ap (λ ps. ps ++ place ∷ []) x.5,
      read_more (suc first) lines x.1 x.2 line envelope place next x.6 reads,
    ))
    (λ x. inr (
      x.0,
      read_more (suc first) lines envelopes places line envelope place next x.1 reads,
    )) are

read_past : (first : ℕ) (lines : List (List ℕ)) (envelopes : List Envelope) (places : List ℕ)
    (line : List ℕ) → AreReadFrom first lines envelopes places
    → ((envelope : Envelope) → ¬ EnvelopeOf line envelope)
    → AreReadFrom first (lines ++ line ∷ []) envelopes places
read_past first [] envelopes places line are none = inr (none, are)
read_past first (l ∷ lines) envelopes places line are none = ⊎_elim
    (λ x. inl (
      x.0,
      x.1,
      x.2,
      x.3,
      x.4,
      x.5,
      read_past (suc first) lines x.1 x.2 line x.6 none,
    ))
    (λ x. inr (x.0, read_past (suc first) lines envelopes places line x.1 none)) are

-- ---- the lines of a text so far
-- the lines before what is left of a text are as many as the place of the last one, and were read
pub record HasRead (bytes rest : List ℕ) (place : ℕ) (envelopes : List Envelope)
    (places : List ℕ) : Type 0 where
  pub done : List (List ℕ)
  pub all : lines_of bytes ≡ done ++ lines_of rest
  pub as_many : place ≡ length done
  pub read : AreReadFrom 1 done envelopes places

module _ (bytes rest after line : List ℕ) (place : ℕ) (envelopes : List Envelope)
    (places : List ℕ) (has : HasRead bytes rest place envelopes places)
    (cut : lines_of rest ≡ line ∷ lines_of after) where
  lines_are : lines_of bytes ≡ (has.done ++ line ∷ []) ++ lines_of after
  lines_are = has.all ∙ ap (λ ls. has.done ++ ls) cut
      ∙ sym (append_assoc has.done (line ∷ []) (lines_of after))

  one_longer : place + 1 ≡ length (has.done ++ line ∷ [])
  one_longer = let many = has.as_many in let long = length-append has.done (line ∷ []) in
      omega (arith, many, long)

  -- one line more, which is an envelope
  pub read_kept : (envelope : Envelope) → EnvelopeOf line envelope
      → HasRead bytes after (place + 1) (envelopes ++ envelope ∷ []) (places ++ (place + 1) ∷ [])
  read_kept envelope reads =
      let many = has.as_many in
      let at : place + 1 ≡ 1 + length has.done = omega (arith, many) in
      record {
        done = has.done ++ line ∷ [];
        all = lines_are;
        as_many = one_longer;
        read = read_more 1 has.done envelopes places line envelope (place + 1) at has.read reads;
      }

  -- one that is none
  pub read_none : ((envelope : Envelope) → ¬ EnvelopeOf line envelope)
      → HasRead bytes after (place + 1) envelopes places
  read_none none = record {
    done = has.done ++ line ∷ [];
    all = lines_are;
    as_many = one_longer;
    read = read_past 1 has.done envelopes places line has.read none;
  }

-- ---- all lines
-- there are as many places as envelopes
pub places_many : (first : ℕ) (lines : List (List ℕ)) (envelopes : List Envelope) (places : List ℕ)
    → AreReadFrom first lines envelopes places → length places ≡ length envelopes
places_many first [] envelopes places are =
    ap (λ ps. length ps) are.1 ∙ sym (ap (λ es. length es) are.0)
places_many first (line ∷ lines) envelopes places are = ⊎_elim
    (λ x. ap (λ ps. length ps) x.5 ∙ ap suc (places_many (suc first) lines x.1 x.2 x.6)
    ∙ sym (ap (λ es. length es) x.4))
    (λ x. places_many (suc first) lines envelopes places x.1) are
