-- When MATCH claims a path.
use Rattle.std.proofs.Common.{Bool, IsTrue, ◌≡◌, ◌∙◌, ◌↔◌, ◌++◌, ℕ, List, Option, Some, None}
use Rattle.std.proofs.Common.{Bor, MatchOption, option_map, sym, subst, refl, Contains}
use Rattle.std.specs.FinMap.{get}
use Rattle.std.proofs.lemmas.List.{append_cancel_left}
use Rattle.it_digest.specs.Artifacts.{ArtifactMap}
use Rattle.it_digest.specs.Compare.{Agree}
use Rattle.it_digest.specs.declared.compare.DigestSet.{DigestSet}
use Rattle.it_docs.specs.declared.rule.Side.{Side}
use Rattle.it_rules.specs.FolderPrefix.{folder_prefix}
use Rattle.it_rules.specs.Item.{Recorded, Links, artifacts_on}
use Rattle.it_rules.specs.Rules.{IsMatch, MatchClaims, NamesDiffer}
use Rattle.it_rules.proofs.Listed.{named_once}

-- both digest sets are there, and P holds of them
abbrev pub BothAre : (DigestSet → DigestSet → Type 0) → Option DigestSet → Option DigestSet → Type 0
BothAre P here there = MatchOption here ⊥ (λ a. MatchOption there ⊥ (λ b. P a b))

-- both digest sets are there and agree
abbrev pub BothAgree : Option DigestSet → Option DigestSet → Type 0
BothAgree = BothAre Agree

pub parts : (P : DigestSet → DigestSet → Type 0) (here there : Option DigestSet)
    → BothAre P here there → (a : DigestSet) × (b : DigestSet) × (here ≡ Some a) × (there ≡ Some b)
    × P a b
parts P None there h = absurd h
parts P (Some a) None h = absurd h
parts P (Some a) (Some b) h = (a, b, refl, refl, h)

module _ (pattern source : List ℕ) (side : Side) (target from : List ℕ) (artifacts : ArtifactMap)
    (links : Links) (path : List ℕ) where
  -- what is left of the path is one text
  pub one_rest : (rest : List ℕ) → path ≡ folder_prefix source ++ rest
      → (m : MatchClaims pattern source side target from artifacts links path) → m.rest ≡ rest
  one_rest rest e m = append_cancel_left (folder_prefix source) m.rest rest (sym m.under_source ∙ e)

  pub no_match : (rest : List ℕ) → path ≡ folder_prefix source ++ rest → ¬ IsMatch pattern rest
      → ¬ MatchClaims pattern source side target from artifacts links path
  no_match rest e none m = none (subst (IsMatch pattern) (one_rest rest e m) m.is_match)

  -- with the rest and the item known, the digests decide
  pub claims_from_digests : (rest : List ℕ) (linked : Recorded) → NamesDiffer links
      → path ≡ folder_prefix source ++ rest → IsMatch pattern rest → Contains links (from, linked)
      → BothAgree (get artifacts path)
      (get (artifacts_on side linked) (folder_prefix target ++ rest))
      ↔ MatchClaims pattern source side target from artifacts links path
  claims_from_digests rest linked differ e matched named = (
    λ h. let p = parts Agree _ _ h in record {
      rest = rest;
      linked = linked;
      here = p.0;
      there = p.1;
      under_source = e;
      is_match = matched;
      is_named = named;
      stands_here = p.2;
      stands_there = p.3;
      digests_agree = p.4;
    },
    λ m.
        let one : m.linked ≡ linked = named_once links from m.linked linked differ m.is_named
        named in
        let there : get (artifacts_on side linked) (folder_prefix target ++ rest) ≡ Some m.there =
        subst (λ (r : List ℕ). get (artifacts_on side linked) (folder_prefix target ++ r)
        ≡ Some m.there) (one_rest rest e m)
        (subst (λ (k : Recorded). get (artifacts_on side k) (folder_prefix target ++ m.rest)
        ≡ Some m.there) one m.stands_there) in
        rw (m.stands_here, there) m.digests_agree,
  )

-- ---- an answer on digests, as an answer on the path
abbrev pub now_of : Bor DigestSet → DigestSet
now_of digests = digests.now

-- two sets that are lent agree as they are
lent_agree : (r : Bool) (here there : Option (Bor DigestSet))
    → (IsTrue r ↔ MatchOption here ⊥ (λ a. MatchOption there ⊥ (λ b. Agree a.now b.now)))
    → IsTrue r ↔ BothAgree (option_map now_of here) (option_map now_of there)
lent_agree r None there h = h
lent_agree r (Some a) None h = h
lent_agree r (Some a) (Some b) h = h

pub answer_on_path : {M : Type 0} (r : Bool) (here there : Option (Bor DigestSet))
    (x y : Option DigestSet)
    → (IsTrue r ↔ MatchOption here ⊥ (λ a. MatchOption there ⊥ (λ b. Agree a.now b.now)))
    → option_map now_of here ≡ x → option_map now_of there ≡ y → (BothAgree x y ↔ M)
    → IsTrue r ↔ M
answer_on_path r here there x y h p q iff =
    let a : IsTrue r ↔ BothAgree x y = rw (p, q) at (lent_agree r here there h) in
    (λ t. iff.0 (a.0 t), λ m. a.1 (iff.1 m))
