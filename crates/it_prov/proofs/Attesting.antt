-- An envelope attests one provenance for a file, or none.
use Rattle.std.proofs.Common.{◌≡◌, ◌⊎◌, Option, Some, None, inl, inr, Contains, refl, sym, ap}
use Rattle.std.proofs.Common.{subst, ◌∙◌}
use Rattle.std.specs.Str.{bytes_eq}
use Rattle.std.proofs.lemmas.Option.{same_Some}
use Rattle.std.proofs.lemmas.Slice.Eq.{bytes_eq-Decides}
use Rattle.it_base.specs.Finds.{Finds}
use Rattle.it_base.proofs.Settled.{settled_by, some_or_none}
use Rattle.it_digest.specs.Compare.{Agree}
use Rattle.it_digest.specs.declared.compare.DigestSet.{DigestSet}
use Rattle.it_digest.proofs.Decided.{is_agreement, is_agreement-Decides}
use Rattle.it_dsse.specs.declared.envelope.Envelope.{Envelope}
use Rattle.it_docs.specs.PayloadType.{in_toto_type}
use Rattle.it_docs.specs.Statement.{StatementOf}
use Rattle.it_docs.specs.declared.statement.Provenance.{Provenance}
use Rattle.it_docs.specs.declared.statement.Statement.{Statement}
use Rattle.it_docs.proofs.Same.{statement_same}
use Rattle.it_docs.proofs.StatementDecided.{statement_of, statement_of-finds}
use Rattle.it_prov.specs.Meets.{Attests}

module _ (digests : DigestSet) (envelope : Envelope) where
  provenance_same : (s t : Statement) → StatementOf envelope.payload s
      → StatementOf envelope.payload t → s.provenance ≡ t.provenance
  provenance_same s t h k = ap (λ (u : Statement). u.provenance)
      (statement_same envelope.payload s t h k)

  pub attests_one : (p q : Provenance) → Attests envelope digests p → Attests envelope digests q
      → p ≡ q
  attests_one p q h k = same_Some p q (sym h.provenance_is
      ∙ provenance_same h.statement k.statement h.reads k.reads ∙ k.provenance_is)

  module _ (statement : Statement) (reads : StatementOf envelope.payload statement) where
    -- without a subject of the digests nothing is attested
    pub no_subject : ((subject : DigestSet) → Contains statement.subjects subject
        → ¬ Agree subject digests) → (p : Provenance) → ¬ Attests envelope digests p
    no_subject none p h =
        none h.subject (subst (λ (s : Statement). Contains s.subjects h.subject)
        (statement_same envelope.payload h.statement statement h.reads reads) h.is_subject)
        h.digests_agree

    -- with one what is attested is the provenance of the Statement
    pub of_subject : envelope.payload_type ≡ in_toto_type → (subject : DigestSet)
        → Contains statement.subjects subject → Agree subject digests → (found : Option Provenance)
        → statement.provenance ≡ found → Finds (Attests envelope digests) found
    of_subject type_is subject c agree None e = λ p h. let none : ◌≡◌ {A = Option Provenance} None
        (Some p) = sym e ∙ provenance_same statement h.statement reads h.reads ∙ h.provenance_is in
        cc
    of_subject type_is subject c agree (Some p) e = record {
      statement = statement;
      subject = subject;
      type_is = type_is;
      reads = reads;
      provenance_is =
          e;
      is_subject = c;
      digests_agree = agree;
    }

  abbrev AttestsOrNot : Type 0
  AttestsOrNot = ((p : Provenance) × Attests envelope digests p)
      ⊎ ((p : Provenance) → ¬ Attests envelope digests p)

  found_or_not : (found : Option Provenance) → Finds (Attests envelope digests) found → AttestsOrNot
  found_or_not None none = inr none
  found_or_not (Some p) h = inl (p, h)

  with_statement : envelope.payload_type ≡ in_toto_type → (found : Option Statement)
      → Finds (StatementOf envelope.payload) found → AttestsOrNot
  with_statement type_is None none = inr (λ p a. none a.statement a.reads)
  with_statement type_is (Some statement) reads =
      elim (some_or_none (λ s. Agree s digests)
      (λ s. settled_by (is_agreement s digests) (is_agreement-Decides s digests))
      statement.subjects) [
        | inl s ↦ found_or_not statement.provenance
            (of_subject statement reads type_is s.0 s.1 s.2 statement.provenance refl)
        | inr none ↦ inr (no_subject statement reads none)
      ]

  pub attests_or_not : AttestsOrNot
  attests_or_not = elim (settled_by (bytes_eq envelope.payload_type in_toto_type)
      (bytes_eq-Decides envelope.payload_type in_toto_type)) [
        | inl type_is ↦ with_statement type_is (statement_of envelope.payload)
            (statement_of-finds envelope.payload)
        | inr n ↦ inr (λ p a. n a.type_is)
      ]
