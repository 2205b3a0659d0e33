-- A builder signed an envelope, or it did not.
use Rattle.std.proofs.Common.{◌≡◌, ◌++◌, ℕ, List, [], ◌∷◌, append_assoc, append-nil, inl, inr}
use Rattle.std.proofs.Common.{Contains, refl, sym, subst, ◌∙◌}
use Rattle.std.specs.FinMap.{entries}
use Rattle.std.proofs.lemmas.List.Elements.{Contains-append_right, Contains-push_cases}
use Rattle.it_base.proofs.Members.{in_head, in_none}
use Rattle.it_base.proofs.Settled.{Settled, some_or_none}
use Rattle.it_dsse.specs.Panel.{Panel}
use Rattle.it_dsse.specs.Signed.{IsSigner, tries}
use Rattle.it_dsse.specs.declared.envelope.Envelope.{Envelope}
use Rattle.it_dsse.specs.declared.key_object.KeyObject.{KeyObject}
use Rattle.it_dsse.proofs.SignerSettled.{signer_or_not}
use Rattle.it_docs.specs.declared.policy.Builder.{Builder}
use Rattle.it_prov.specs.Answered.{IsAskedOfBuilder}
use Rattle.it_prov.specs.Meets.{SignedByBuilder}
use Rattle.it_digest.proofs.Entries.{entry_known, known_entry}

module _ (panel : Panel) (envelope : Envelope) where
  -- the key of an entry signed
  abbrev pub EntrySigned : List ℕ × KeyObject → Type 0
  EntrySigned e = IsSigner panel envelope e.1 e.0

  pub signed_by_entry : (builder : Builder) (e : List ℕ × KeyObject)
      → Contains (entries builder.keys) e → EntrySigned e → SignedByBuilder panel envelope builder
  signed_by_entry builder e c s = record {
    id = e.0;
    object = e.1;
    key = s.0;
    is_key = entry_known builder.keys e c;
    signed = s.1;
  }

  pub not_signed_by : (builder : Builder)
      → ((e : List ℕ × KeyObject) → Contains (entries builder.keys) e → ¬ EntrySigned e)
      → ¬ SignedByBuilder panel envelope builder
  not_signed_by builder none h =
      none (h.id, h.object) (known_entry builder.keys h.id h.object h.is_key) (h.key, h.signed)

  pub signed_or_not : (builder : Builder) → Settled (SignedByBuilder panel envelope builder)
  signed_or_not builder =
      elim (some_or_none EntrySigned (λ e. signer_or_not panel envelope e.1 e.0)
      (entries builder.keys)) [
        | inl s ↦ inl (signed_by_entry builder s.0 s.1 s.2)
        | inr none ↦ inr (not_signed_by builder none)
      ]

  -- ---- the entries of a builder's keys, one after another
  -- the keys of the entries before the rest did not sign
  pub record Searched (builder : Builder) (rest : List (List ℕ × KeyObject)) : Type 0 where
    pub done : List (List ℕ × KeyObject)
    pub are : entries builder.keys ≡ done ++ rest
    pub none : (e : List ℕ × KeyObject) → Contains done e → ¬ EntrySigned e

  pub searched_none : (builder : Builder) (rest : List (List ℕ × KeyObject))
      → rest ≡ entries builder.keys → Searched builder rest
  searched_none builder rest e = record {
    done = [];
    are = sym e;
    none = λ f c. absurd (in_none f c);
  }

  module _ (builder : Builder) (e : List ℕ × KeyObject) (rest : List (List ℕ × KeyObject))
      (h : Searched builder (e ∷ rest)) where
    pub searched_more : ¬ EntrySigned e → Searched builder rest
    searched_more fails = record {
      done = h.done ++ e ∷ [];
      are = h.are ∙ sym (append_assoc h.done (e ∷ []) rest);
      none = λ f c. elim (Contains-push_cases h.done e f c) [
        | inl earlier ↦ h.none f earlier
        | inr same ↦ subst (λ d. ¬ EntrySigned d) same fails
      ];
    }

    is_entry : Contains (entries builder.keys) e
    is_entry = subst (λ es. Contains es e) (sym h.are)
        (Contains-append_right h.done (e ∷ rest) e (in_head e rest))

    pub searched_found : EntrySigned e → SignedByBuilder panel envelope builder
    searched_found = signed_by_entry builder e is_entry

    pub searched_asked : EntrySigned e → IsAskedOfBuilder panel envelope builder
        (tries panel envelope e.0 e.1)
    unfolding signed_by_entry
    searched_asked s = record { signed = signed_by_entry builder e is_entry s; tried = refl }

  pub searched_all : (builder : Builder) → Searched builder []
      → ¬ SignedByBuilder panel envelope builder
  searched_all builder h =
      not_signed_by builder
      (λ e c. h.none e (subst (λ es. Contains es e) (h.are ∙ append-nil h.done) c))
