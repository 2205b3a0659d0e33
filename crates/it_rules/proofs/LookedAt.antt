-- MATCH looks at the link of one name, and at no other.
use Rattle.std.proofs.Common.{◌↔◌, inl, inr, ℕ, List, [], ◌∷◌, Contains}
use Rattle.std.proofs.Common.{subst}
use Rattle.it_base.proofs.Members.{in_cases, in_head, in_none}
use Rattle.it_digest.specs.Artifacts.{ArtifactMap}
use Rattle.it_docs.specs.declared.rule.Side.{Side}
use Rattle.it_rules.specs.Item.{Links, Recorded}
use Rattle.it_rules.specs.Rules.{MatchClaims, NamesDiffer}
use Rattle.it_rules.proofs.Listed.{named_once}

module _ (pattern source : List ℕ) (side : Side) (target from : List ℕ) (artifacts : ArtifactMap)
    (path : List ℕ) where
  claims_by : (links others : Links)
      → ((item : Recorded) → Contains links (from, item) → Contains others (from, item))
      → MatchClaims pattern source side target from artifacts links path
      → MatchClaims pattern source side target from artifacts others path
  claims_by links others kept m = record {
    rest = m.rest;
    linked = m.linked;
    here = m.here;
    there = m.there;
    under_source = m.under_source;
    is_match = m.is_match;
    is_named = kept m.linked m.is_named;
    stands_here = m.stands_here;
    stands_there = m.stands_there;
    digests_agree = m.digests_agree;
  }

  -- where it is there, the link of the name is enough
  pub claims_alone : (links : Links) (item : Recorded) → NamesDiffer links
      → Contains links (from, item)
      → MatchClaims pattern source side target from artifacts ((from, item) ∷ []) path
      ↔ MatchClaims pattern source side target from artifacts links path
  claims_alone links item differ named = (
    claims_by ((from, item) ∷ []) links (λ other alone.
        elim (in_cases (from, item) [] (from, other) alone) [
          | inl same ↦ subst (Contains links) same named
          | inr none ↦ absurd (in_none (from, other) none)
        ]),
    claims_by links ((from, item) ∷ []) (λ other there.
        subst (λ (o : Recorded). let entry : List ℕ × Recorded = (from, o) in
        Contains ((from, item) ∷ []) entry)
        (named_once links from item other differ named there) (in_head (from, item) [])),
  )

  -- where it is not, no link is
  pub claims_none : (links : Links) → ((item : Recorded) → ¬ Contains links (from, item))
      → MatchClaims pattern source side target from artifacts [] path
      ↔ MatchClaims pattern source side target from artifacts links path
  claims_none links none = (
    claims_by [] links (λ other nowhere. absurd (in_none (from, other) nowhere)),
    claims_by links [] (λ other there. absurd (none other there)),
  )
