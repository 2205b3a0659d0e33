-- Whether a rule claims a path, as an answer.
use Rattle.std.proofs.Common.{◌≡◌, ℕ, List, [], ◌∷◌, ◌++◌, Bool, true, false, ◌&&◌, not, cond, eqb}
use Rattle.std.proofs.Common.{eqb-true, eq-eqb, Option, Some, None, Decides, Contains, Any, refl}
use Rattle.std.proofs.Common.{subst}
use Rattle.std.specs.FinMap.{contains_key, get}
use Rattle.std.specs.List.{list_any}
use Rattle.std.specs.Str.{bytes_eq}
use Rattle.std.proofs.lemmas.Bool.Decides.{Decides-and, Decides-like, Decides-not}
use Rattle.std.proofs.lemmas.List.Folds.{Any-from_list_any, list_any-from_Any}
use Rattle.std.proofs.lemmas.Slice.Eq.{bytes_eq-Decides}
use Rattle.it_base.specs.Finds.{Finds}
use Rattle.it_glob.proofs.Decided.{is_match, is_match-Decides, never}
use Rattle.it_digest.specs.Artifacts.{ArtifactMap}
use Rattle.it_digest.specs.Compare.{Agree, Differ}
use Rattle.it_digest.specs.declared.compare.DigestSet.{DigestSet}
use Rattle.it_digest.proofs.Decided.{is_agreement, is_agreement-Decides, is_difference}
use Rattle.it_digest.proofs.Decided.{is_difference-Decides}
use Rattle.it_docs.specs.declared.rule.Rule.{Rule}
use Rattle.it_docs.specs.declared.rule.Rule.TheVariants.{Match, Create, Delete, Modify, Allow}
use Rattle.it_docs.specs.declared.rule.Rule.TheVariants.{Disallow, Require}
use Rattle.it_docs.specs.declared.rule.Side.{Side}
use Rattle.it_rules.specs.FolderPrefix.{folder_prefix}
use Rattle.it_rules.specs.Item.{Recorded, Links, artifacts_on}
use Rattle.it_rules.specs.Rules.{Claims, IsMatch, MatchClaims, Stands}
use Rattle.it_rules.proofs.Claimed.{BothAre, one_rest, parts}

-- what follows a front
abbrev rest_after : List ℕ → List ℕ → Option (List ℕ)
rest_after [] path = Some path
rest_after (c ∷ front) [] = None
rest_after (c ∷ front) (d ∷ path) = cond (eqb d c) (rest_after front path) None

-- whether two digest sets are there and pass a test
abbrev are_both : (DigestSet → DigestSet → Bool) → Option DigestSet → Option DigestSet → Bool
are_both test None q = false
are_both test (Some a) None = false
are_both test (Some a) (Some b) = test a b

-- whether a record has this name, and has at a path what agrees with a digest set
abbrev is_linked : Side → List ℕ → Option DigestSet → List ℕ → List ℕ × Recorded → Bool
is_linked side from here path link = bytes_eq link.0 from
    && are_both is_agreement here (get (artifacts_on side link.1) path)

-- whether what follows the source prefix is claimed
abbrev is_match_of_rest : List ℕ → Side → List ℕ → List ℕ → Option DigestSet → Links
    → Option (List ℕ) → Bool
is_match_of_rest pattern side target from here links None = false
is_match_of_rest pattern side target from here links (Some rest) =
    is_match pattern rest && list_any (is_linked side from here (folder_prefix target ++ rest))
    links

-- decides `Claims`
unfoldable pub is_claim : Rule → Side → Recorded → Links → List ℕ → Bool
is_claim (Match pattern source linked_side target from) side item links path =
    is_match_of_rest pattern linked_side target from (get (artifacts_on side item) path) links
    (rest_after (folder_prefix source) path)
is_claim (Create pattern) side item links path = is_match pattern path
    && (contains_key item.products path && not (contains_key item.materials path))
is_claim (Delete pattern) side item links path = is_match pattern path
    && (contains_key item.materials path && not (contains_key item.products path))
is_claim (Modify pattern) side item links path = is_match pattern path
    && are_both is_difference (get item.materials path) (get item.products path)
is_claim (Allow pattern) side item links path = is_match pattern path
is_claim (Disallow pattern) side item links path = false
is_claim (Require text) side item links path = false

step_rest : (c d : ℕ) (front path : List ℕ) → Finds (λ rest. path ≡ front ++ rest)
    (rest_after front path) → (b : Bool) → eqb d c ≡ b
    → Finds (λ rest. d ∷ path ≡ c ∷ (front ++ rest)) (cond b (rest_after front path) None)
step_rest c d front path h true e = let same : d ≡ c = eqb-true d c e in
    go (rest_after front path) h same
  where
    go : (found : Option (List ℕ)) → Finds (λ rest. path ≡ front ++ rest) found → d ≡ c
        → Finds (λ rest. d ∷ path ≡ c ∷ (front ++ rest)) found
    go None h same = λ rest k. h rest (cc)
    go (Some rest) h same = cc
step_rest c d front path h false e = λ rest k. let same : d ≡ c = cc in let t = eq-eqb d c same in
    cc

rest_after-finds : (front path : List ℕ) → Finds (λ rest. path ≡ front ++ rest)
    (rest_after front path)
rest_after-finds [] path = refl
rest_after-finds (c ∷ front) [] = λ rest e. cc
rest_after-finds (c ∷ front) (d ∷ path) = step_rest c d front path (rest_after-finds front path)
    (eqb d c) refl

any-Decides : {X : Type 0} (test : X → Bool) (P : X → Type 0) → ((x : X) → Decides (test x) (P x))
    → (xs : List X) → Decides (list_any test xs) (Any P xs)
any-Decides test P each xs = (
  λ h. let a = Any-from_list_any test xs h in (a.0, a.1, a.2, a.3, (each a.1).0 a.4),
  λ a. list_any-from_Any test xs (a.0, a.1, a.2, a.3, (each a.1).1 a.4),
)

are_both-Decides : (test : DigestSet → DigestSet → Bool) (P : DigestSet → DigestSet → Type 0)
    → ((a b : DigestSet) → Decides (test a b) (P a b)) → (p q : Option DigestSet)
    → Decides (are_both test p q) (BothAre P p q)
are_both-Decides test P each None q = never (λ h. h)
are_both-Decides test P each (Some a) None = never (λ h. h)
are_both-Decides test P each (Some a) (Some b) = each a b

module _ (pattern source : List ℕ) (side : Side) (target from : List ℕ) (artifacts : ArtifactMap)
    (links : Links) (path : List ℕ) where
  abbrev IsLinked : List ℕ → List ℕ × Recorded → Type 0
  IsLinked rest link = (link.0 ≡ from) × BothAre Agree (get artifacts path)
      (get (artifacts_on side link.1) (folder_prefix target ++ rest))

  is_linked-Decides : (rest : List ℕ) (link : List ℕ × Recorded)
      → Decides (is_linked side from (get artifacts path) (folder_prefix target ++ rest) link)
      (IsLinked rest link)
  is_linked-Decides rest link =
      let there = get (artifacts_on side link.1) (folder_prefix target ++ rest) in
      Decides-and (bytes_eq link.0 from) (are_both is_agreement (get artifacts path) there)
      (bytes_eq-Decides link.0 from) (are_both-Decides is_agreement Agree is_agreement-Decides
      (get artifacts path) there)

  claimed : (rest : List ℕ) → path ≡ folder_prefix source ++ rest → IsMatch pattern rest
      × Any (IsLinked rest) links → MatchClaims pattern source side target from artifacts links path
  claimed rest e h =
      let link = h.1.1 in
      let named : link ≡ (from, link.1) = λ i. (h.1.4.0 i, link.1) in
      let p = parts Agree (get artifacts path)
      (get (artifacts_on side link.1) (folder_prefix target ++ rest)) h.1.4.1 in
      record {
        rest = rest;
        linked = link.1;
        here = p.0;
        there = p.1;
        under_source = e;
        is_match = h.0;
        is_named = subst (Contains links) named (h.1.0, h.1.2, h.1.3);
        stands_here = p.2;
        stands_there = p.3;
        digests_agree = p.4;
      }

  linked : (rest : List ℕ) → path ≡ folder_prefix source ++ rest
      → MatchClaims pattern source side target from artifacts links path → IsMatch pattern rest
      × Any (IsLinked rest) links
  linked rest e m =
      let same : m.rest ≡ rest = one_rest pattern source side target from artifacts links path rest
      e m in
      let there : get (artifacts_on side m.linked) (folder_prefix target ++ rest) ≡ Some m.there =
      subst (λ r. get (artifacts_on side m.linked) (folder_prefix target ++ r) ≡ Some m.there) same
      m.stands_there in
      let agree : BothAre Agree (get artifacts path)
      (get (artifacts_on side m.linked) (folder_prefix target ++ rest)) =
      rw (m.stands_here, there) m.digests_agree in (
        subst (IsMatch pattern) same m.is_match,
        (
          m.is_named.0,
          (from, m.linked),
          m.is_named.1,
          m.is_named.2,
          (refl, agree),
        ),
      )

  is_match_of_rest-Decides : (found : Option (List ℕ)) → Finds (λ rest. path ≡ folder_prefix source
      ++ rest) found
      → Decides (is_match_of_rest pattern side target from (get artifacts path) links found)
      (MatchClaims pattern source side target from artifacts links path)
  is_match_of_rest-Decides None h = never (λ m. h m.rest m.under_source)
  is_match_of_rest-Decides (Some rest) h =
      let test = is_linked side from (get artifacts path) (folder_prefix target ++ rest) in
      Decides-like (is_match pattern rest && list_any test links) (claimed rest h) (linked rest h)
      (Decides-and (is_match pattern rest) (list_any test links) (is_match-Decides pattern rest)
      (any-Decides test (IsLinked rest) (is_linked-Decides rest) links))

-- whether one map has a path and the other has not
only_in-Decides : (pattern path : List ℕ) (first second : ArtifactMap)
    → Decides (is_match pattern path && (contains_key first path && not (contains_key second path)))
    (IsMatch pattern path × (Stands first path × ¬ Stands second path))
only_in-Decides pattern path first second =
    let here = contains_key first path in
    let there = contains_key second path in
    Decides-and (is_match pattern path) (here && not there) (is_match-Decides pattern path)
    (Decides-and here (not there) (λ h. h, λ h. h) (Decides-not there (λ h. h, λ h. h)))

-- a rule claims a path just where the answer says so
pub is_claim-Decides : (rule : Rule) (side : Side) (item : Recorded) (links : Links) (path : List ℕ)
    → Decides (is_claim rule side item links path) (Claims rule side item links path)
unfolding is_claim
is_claim-Decides (Match pattern source linked_side target from) side item links path =
    is_match_of_rest-Decides pattern source linked_side target from (artifacts_on side item) links
    path (rest_after (folder_prefix source) path) (rest_after-finds (folder_prefix source) path)
is_claim-Decides (Create pattern) side item links path =
    Decides-like (is_claim (Create pattern) side item links path) (λ h. record {
      is_match = h.0;
      is_product = h.1.0;
      is_no_material = h.1.1;
    })
    (λ c. (c.is_match, (c.is_product, c.is_no_material)))
    (only_in-Decides pattern path item.products item.materials)
is_claim-Decides (Delete pattern) side item links path =
    Decides-like (is_claim (Delete pattern) side item links path) (λ h. record {
      is_match = h.0;
      is_material = h.1.0;
      is_no_product = h.1.1;
    })
    (λ c. (c.is_match, (c.is_material, c.is_no_product)))
    (only_in-Decides pattern path item.materials item.products)
is_claim-Decides (Modify pattern) side item links path =
    let differ = are_both is_difference (get item.materials path) (get item.products path) in
    Decides-like (is_claim (Modify pattern) side item links path)
    (λ h.
    let p = parts Differ (get item.materials path) (get item.products path) h.1 in
    record {
      before = p.0;
      after = p.1;
      is_match = h.0;
      is_material = p.2;
      is_product = p.3;
      digests_differ = p.4;
    })
    (λ c. (c.is_match, rw (c.is_material, c.is_product) c.digests_differ))
    (Decides-and (is_match pattern path) differ (is_match-Decides pattern path)
    (are_both-Decides is_difference Differ is_difference-Decides (get item.materials path)
    (get item.products path)))
is_claim-Decides (Allow pattern) side item links path = is_match-Decides pattern path
is_claim-Decides (Disallow pattern) side item links path = never (λ h. h)
is_claim-Decides (Require text) side item links path = never (λ h. h)
