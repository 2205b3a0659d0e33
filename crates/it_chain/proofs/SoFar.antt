-- What counts for a key id among the envelopes so far.
use Rattle.std.proofs.Common.{◌≡◌, ◌≢◌, ℕ, List, [], ◌∷◌, ◌++◌, Option, Some, None, Bor, ⊎_elim}
use Rattle.std.proofs.Common.{sym, ap, subst, ◌∙◌}
use Rattle.std.proofs.lemmas.List.Elements.{Contains-append_left, Contains-append_right}
use Rattle.std.proofs.lemmas.List.Elements.{Contains-append_cases}
use Rattle.it_base.specs.Finds.{Finds}
use Rattle.it_dsse.specs.Panel.{KeyNumber, Panel}
use Rattle.it_dsse.specs.declared.envelope.Envelope.{Envelope}
use Rattle.it_dsse.specs.declared.key_object.KeyObject.{KeyObject}
use Rattle.it_chain.specs.inside.CountedBodies.{IsSigned, IsSignedBody, CountsOne, CountTwo}
use Rattle.it_chain.specs.declared.body.Body.{Body as Held}
use Rattle.it_chain.specs.declared.counted_bodies.FoundBody.{FoundBody}
use Rattle.it_chain.proofs.Members.{in_head, in_cases, in_none}

-- where one is signed, a signature was asked for
abbrev pub least_first : Option FoundBody → ℕ
least_first None = 0
least_first (Some first) = 1

module _ (panel : Panel) (step id : List ℕ) (object : KeyObject) where
  abbrev pub SoFar : List Envelope → Option FoundBody → Type 0
  SoFar envelopes None = (envelope : Envelope) (key : KeyNumber) (body : Held)
      → ¬ IsSigned panel step id object envelopes envelope key body
  SoFar envelopes (Some first) = CountsOne panel step id object envelopes first

  pub none_so_far : SoFar [] None
  none_so_far envelope key body h = in_none envelope h.stands

  module _ (envelopes : List Envelope) (new : Envelope) where
    signed_cases : (other : Envelope) (k : KeyNumber) (b : Held)
        → IsSigned panel step id object (envelopes ++ new ∷ []) other k b → (P : Type 0)
        → (IsSigned panel step id object envelopes other k b → P) → (new ≡ other → P) → P
    signed_cases other k b h P before last =
        ⊎_elim (λ among. before (record { stands = among; signed = h.signed }))
        (λ at_last. ⊎_elim last (λ later. absurd (in_none other later))
        (in_cases new [] other at_last))
        (Contains-append_cases envelopes (new ∷ []) other h.stands)

    earlier : (other : Envelope) (k : KeyNumber) (b : Held)
        → IsSigned panel step id object envelopes other k b
        → IsSigned panel step id object (envelopes ++ new ∷ []) other k b
    earlier other k b h = record {
      stands = Contains-append_left envelopes (new ∷ []) other h.stands;
      signed = h.signed;
    }

    the_last : (k : KeyNumber) (b : Held) → IsSignedBody panel step id object new (k, b)
        → IsSigned panel step id object (envelopes ++ new ∷ []) new k b
    the_last k b h = record {
      stands = Contains-append_right envelopes (new ∷ []) new (in_head new []);
      signed = h;
    }

    not_last : Finds (IsSignedBody panel step id object new) None → (other : Envelope)
        (k : KeyNumber) (b : Held) → new ≡ other
        → IsSigned panel step id object (envelopes ++ new ∷ []) other k b → ⊥
    not_last unsigned other k b same h = unsigned (k, b)
        (subst (λ e. IsSignedBody panel step id object e (k, b)) (sym same) h.signed)

    -- an envelope that does not count
    pub passed_by : (first : Option FoundBody) → Finds (IsSignedBody panel step id object new) None
        → SoFar envelopes first → SoFar (envelopes ++ new ∷ []) first
    passed_by None unsigned h = λ other k b is. signed_cases other k b is ⊥ (h other k b)
        (λ same. not_last unsigned other k b same is)
    passed_by (Some first) unsigned h = record {
      is = earlier first.envelope.now first.key first.body h.is;
      alone = λ other k b is. signed_cases other k b is
          (first.envelope.now.payload ≡ other.payload) (h.alone other k b)
          (λ same. absurd (not_last unsigned other k b same is));
    }

    -- the first that counts
    pub begun : (lent : Bor Envelope) (key : KeyNumber) (body : Held) → lent.now ≡ new
        → IsSignedBody panel step id object new (key, body) → SoFar envelopes None
        → SoFar (envelopes ++ new ∷ []) (Some (record {
          key = key;
          envelope = lent;
          body = body;
        }))
    begun lent key body same signs h = record {
      is = subst (λ e. IsSigned panel step id object (envelopes ++ new ∷ []) e key body) (sym same)
          (the_last key body signs);
      alone = λ other k b is. signed_cases other k b is (lent.now.payload ≡ other.payload)
          (λ before. absurd (h other k b before))
          (λ last. ap (λ (e : Envelope). e.payload) (same ∙ last));
    }

    -- one more with the same payload
    pub repeated : (first : FoundBody) → first.envelope.now.payload ≡ new.payload
        → SoFar envelopes (Some first) → SoFar (envelopes ++ new ∷ []) (Some first)
    repeated first same h = record {
      is = earlier first.envelope.now first.key first.body h.is;
      alone = λ other k b is. signed_cases other k b is
          (first.envelope.now.payload ≡ other.payload) (h.alone other k b) (λ last. same
          ∙ ap (λ (e : Envelope). e.payload) last);
    }

  -- two that differ
  pub two_of : (envelopes : List Envelope) (first : FoundBody) (other : Envelope)
      (key : KeyNumber) (body : Held)
      → IsSigned panel step id object envelopes first.envelope.now first.key first.body
      → IsSigned panel step id object envelopes other key body
      → first.envelope.now.payload ≢ other.payload → CountTwo panel step id object envelopes
  two_of envelopes first other key body first_is other_is differ = record {
    one = first.envelope.now;
    other = other;
    one_key = first.key;
    other_key = key;
    one_body = first.body;
    other_body = body;
    one_is = first_is;
    other_is = other_is;
    differ = differ;
  }
