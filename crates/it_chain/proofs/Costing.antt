-- What the ids of a step cost together, from what the step costs.
use Rattle.std.proofs.Common.{◌≡◌, ◌≢◌, ℕ, ◌+◌, ◌*◌, ◌≤◌, List, [], ◌∷◌, map, length, Bool, true}
use Rattle.std.proofs.Common.{false, cond, inl, inr, ⊎_elim, bytes_eq, Contains, refl, sym, ap}
use Rattle.std.proofs.Common.{subst, arith, ◌∙◌}
use Rattle.std.specs.Cmp.Lexicographic.{nat_list_eq_equiv}
use Rattle.std.specs.FinMap.{entries, entries_sorted}
use Rattle.std.specs.List.{AllByRecursion, IsDistinct}
use Rattle.std.specs.Set.{distinct_count, unique_keys}
use Rattle.std.proofs.lemmas.List.{length-map}
use Rattle.std.proofs.lemmas.Map.Made.{is_member-Decides, length-le_from_is_member}
use Rattle.std.proofs.lemmas.Nat.{mul-le}
use Rattle.std.proofs.lemmas.Slice.Eq.{bytes_eq-Decides}
use Rattle.it_base.specs.Sum.{CostsIfFound, IsSum}
use Rattle.it_dsse.specs.Envelope.{EnvelopeOf}
use Rattle.it_dsse.specs.Signed.{AreThose}
use Rattle.it_docs.specs.Layout.{LayoutOf}
use Rattle.it_docs.specs.declared.layout.Layout.{Layout}
use Rattle.it_docs.specs.declared.step.Step.{Step}
use Rattle.it_docs.proofs.Same.{layout_same}
use Rattle.it_chain.specs.Answer.{signers}
use Rattle.it_chain.specs.inside.Asked.{IdCosts, signature_count}
use Rattle.it_chain.specs.Contents.{Contents, files_of}
use Rattle.it_chain.specs.Cost.{Costing, FileHas, HasSignatures, StepCosts}
use Rattle.it_chain.specs.CountedBodies.{Setting, Counted}
use Rattle.it_chain.specs.First.{IsBefore}
use Rattle.it_chain.specs.ClaimedFiles.{IsClaimed}
use Rattle.it_chain.specs.Sublayouts.{folder_of}
use Rattle.it_chain.specs.Signers.{entry_of}
use Rattle.it_chain.specs.inside.Candidates.{AreCandidates}
use Rattle.it_chain.specs.declared.bundle.File.{File}
use Rattle.it_dsse.specs.declared.envelope.Envelope.{Envelope}
use Rattle.it_chain.specs.declared.signers.Signer.{Signer}
use Rattle.it_chain.proofs.Members.{in_cases, in_head, in_none, in_tail, of_filter}
use Rattle.it_chain.proofs.Orders.{one_before}
use Rattle.it_chain.proofs.Records.{is_listed}
use Rattle.it_chain.proofs.SignerLists.{Rises, rises_filter}
use Rattle.it_chain.proofs.Uniques.{in_unique}

-- ---- sums over lists
abbrev total : {X : Type 0} → (X → ℕ) → List X → ℕ
total f [] = 0
total f (x ∷ xs) = f x + total f xs

total_zero : {X : Type 0} (xs : List X) → total (λ (x : X). 0) xs ≡ 0
total_zero [] = refl
total_zero (x ∷ xs) = let rest = total_zero xs in omega (arith, rest)

total_both : {X : Type 0} (f g : X → ℕ) (xs : List X) → total (λ x. f x + g x) xs ≡ total f xs
    + total g xs
total_both f g [] = omega arith
total_both f g (x ∷ xs) = let rest = total_both f g xs in omega (arith, rest)

total_more : {X : Type 0} (c : ℕ) (f : X → ℕ) (xs : List X)
    → total (λ x. c + f x) xs ≡ length xs * c + total f xs
total_more c f [] = omega arith
total_more c f (x ∷ xs) = let rest = total_more c f xs in omega (arith, rest)

-- ---- ids that rise are asked for once each
if_same : List ℕ → ℕ → List ℕ → ℕ
if_same id c other = cond (bytes_eq other id) c 0

other_id : (id other : List ℕ) (c : ℕ) (same : Bool) → bytes_eq other id ≡ same → other ≢ id
    → cond same c 0 ≡ 0
other_id id other c true e differ = absurd (differ ((bytes_eq-Decides other id).0 e))
other_id id other c false e differ = refl

module _ {X : Type 0} where
  none_after : (id : List ℕ) (c : ℕ) (es : List (List ℕ × X))
      → ((f : List ℕ × X) → Contains es f → f.0 ≢ id) → total (λ e. if_same id c e.0) es ≡ 0
  unfolding if_same
  none_after id c [] differ = refl
  none_after id c (e ∷ es) differ =
      let here = other_id id e.0 c (bytes_eq e.0 id) refl (differ e (in_head e es)) in
      let rest = none_after id c es (λ f among. differ f (in_tail e es f among)) in
      omega (arith, here, rest)

  once_at : (id : List ℕ) (c : ℕ) (e : List ℕ × X) (es : List (List ℕ × X)) (same : Bool)
      → bytes_eq e.0 id ≡ same → Rises (e ∷ es) → total (λ f. if_same id c f.0) es ≤ c
      → cond same c 0 + total (λ f. if_same id c f.0) es ≤ c
  once_at id c e es true is rises rest =
      let here : e.0 ≡ id = (bytes_eq-Decides e.0 id).0 is in
      let none = none_after id c es (λ f among k. let before : IsBefore id id = subst
      (IsBefore id) k (subst (λ t. IsBefore t f.0) here (rises.0 f among)) in
      one_before id id before before) in
      omega (arith, none)
  once_at id c e es false is rises rest = omega (arith, rest)

  once : (id : List ℕ) (c : ℕ) (es : List (List ℕ × X)) → Rises es
      → total (λ e. if_same id c e.0) es ≤ c
  unfolding if_same
  once id c [] rises = omega arith
  once id c (e ∷ es) rises = once_at id c e es (bytes_eq e.0 id) refl rises (once id c es rises.1)

-- ---- what the sublayouts cost, id by id
module _ (sub : Costing) (setting : Setting) (layout : Layout) (bundle : Contents)
    (step : Step) where
  abbrev Cost : List ℕ × List ℕ → ℕ → Type 0
  Cost body = CostsIfFound (LayoutOf body.1)
      (λ sublayout. sub sublayout (folder_of step.name body.0 bundle))

  -- the share of an id in the sum
  share : (id : List ℕ) (bodies : List (List ℕ × List ℕ)) (n : ℕ) → IsSum Cost bodies n → ℕ
  share id [] n h = 0
  share id (body ∷ bodies) n h = if_same body.0 h.0 id + share id bodies h.1 h.3

  cost_is : (payload : List ℕ) (id : List ℕ) (sublayout : Layout) (n : ℕ) → Cost (id, payload) n
      → LayoutOf payload sublayout → sub sublayout (folder_of step.name id bundle) n
  cost_is payload id sublayout n cost is =
      ⊎_elim (λ found. subst (λ l. sub l (folder_of step.name id bundle) n)
      (layout_same payload found.0 sublayout found.1 is) found.2)
      (λ none. absurd (none.0 sublayout is)) cost

  in_share : (id payload : List ℕ) (sublayout : Layout) (bodies : List (List ℕ × List ℕ)) (n : ℕ)
      (h : IsSum Cost bodies n) → Contains bodies (id, payload) → LayoutOf payload sublayout
      → (m : ℕ) × sub sublayout (folder_of step.name id bundle) m × (m ≤ share id bodies n h)
  unfolding share if_same
  in_share id payload sublayout [] n h c is = absurd (in_none (id, payload) c)
  in_share id payload sublayout (body ∷ bodies) n h c is =
      elim (in_cases body bodies (id, payload) c) [
        | inl same ↦
            let named : bytes_eq id body.0 ≡ true =
            (bytes_eq-Decides id body.0).1 (sym (ap (λ (b : List ℕ × List ℕ). b.0) same)) in (
              h.0,
              cost_is payload id sublayout h.0 (subst (λ b. Cost b h.0) same h.2) is,
              rw named (omega arith),
            )
        | inr later ↦ let rest = in_share id payload sublayout bodies h.1 h.3 later is in
            (rest.0, rest.1, omega (arith, rest.2))
      ]

  shares_within : {X : Type 0} (es : List (List ℕ × X)) → Rises es
      → (bodies : List (List ℕ × List ℕ)) (n : ℕ) (h : IsSum Cost bodies n)
      → total (λ e. share e.0 bodies n h) es ≤ n
  unfolding share
  shares_within es rises [] n h = let none = total_zero es in omega (arith, none)
  shares_within es rises (body ∷ bodies) n h =
      let both = total_both (λ e. if_same body.0 h.0 e.0) (λ e. share e.0 bodies h.1 h.3) es in
      let here = once body.0 h.0 es rises in
      let rest = shares_within es rises bodies h.1 h.3 in
      omega (arith, both, here, rest, h.4)

-- ---- how many signers a step has
not_same : (a b : List ℕ) (same : Bool) → bytes_eq a b ≡ same → IsBefore a b → same ≡ false
not_same a b true is before = let e : a ≡ b = (bytes_eq-Decides a b).0 is in
    let itself : IsBefore b b = subst (λ t. IsBefore t b) e before in
    absurd (one_before b b itself itself)
not_same a b false is before = refl

module _ {X : Type 0} where
  all_differ : (id : List ℕ) (es : List (List ℕ × X))
      → ((f : List ℕ × X) → Contains es f → IsBefore id f.0)
      → AllByRecursion (λ other. bytes_eq id other ≡ false) (map (λ (e : List ℕ × X). e.0) es)
  all_differ id [] before = tt
  all_differ id (e ∷ es) before = (
    not_same id e.0 (bytes_eq id e.0) refl (before e (in_head e es)),
    all_differ id es (λ f c. before f (in_tail e es f c)),
  )

  ids_distinct : (es : List (List ℕ × X)) → Rises es
      → IsDistinct bytes_eq (map (λ (e : List ℕ × X). e.0) es)
  unfolding IsDistinct
  ids_distinct [] rises = tt
  ids_distinct (e ∷ es) rises = (all_differ e.0 es rises.0, ids_distinct es rises.1)

  ids_listed : (listed : List (List ℕ)) (es : List (List ℕ × X))
      → ((e : List ℕ × X) → Contains es e → Contains listed e.0) → (q : List ℕ)
      → Contains (map (λ (e : List ℕ × X). e.0) es) q → Contains listed q
  ids_listed listed [] all q c = absurd (in_none q c)
  ids_listed listed (e ∷ es) all q c =
      ⊎_elim (λ same. subst (Contains listed) same (all e (in_head e es)))
      (ids_listed listed es (λ f among. all f (in_tail e es f among)) q)
      (in_cases e.0 (map (λ (f : List ℕ × X). f.0) es) q c)

  pub few_ids : (listed : List (List ℕ)) (es : List (List ℕ × X)) → Rises es
      → ((e : List ℕ × X) → Contains es e → Contains listed e.0)
      → length es ≤ distinct_count bytes_eq listed
  few_ids listed es rises all =
      let few = length-le_from_is_member nat_list_eq_equiv (map (λ (e : List ℕ × X). e.0) es)
      (unique_keys bytes_eq listed) (ids_distinct es rises)
      (λ q is. (is_member-Decides bytes_eq-Decides (unique_keys bytes_eq listed) q).1
      (in_unique bytes_eq bytes_eq-Decides listed q
      (ids_listed listed es all q
      ((is_member-Decides bytes_eq-Decides (map (λ (e : List ℕ × X). e.0) es) q).0 is)))) in
      let same = length-map es (λ (e : List ℕ × X). e.0) in
      omega (arith, few, same)

-- ---- the files that are claimed
claimed_sum : (step : Step) (files claimed : List File) (n : ℕ)
    → AreThose (λ f. IsClaimed step.name f.name) files claimed → IsSum (FileHas step) files n
    → (m : ℕ) × IsSum (λ f. CostsIfFound (EnvelopeOf f.bytes) HasSignatures) claimed m × (m ≤ n)
claimed_sum step [] claimed n are h = (
  0,
  subst (λ fs. IsSum (λ (f : File). CostsIfFound (EnvelopeOf f.bytes) HasSignatures) fs 0)
      (sym are) refl,
  omega arith,
)
claimed_sum step (file ∷ files) claimed n are h = ⊎_elim
    (λ k.
    let rest = claimed_sum step files k.1.0 h.1 k.1.2 h.3 in
    let here : CostsIfFound (EnvelopeOf file.bytes) HasSignatures h.0 =
    ⊎_elim (λ found. inl (found.0, found.1.1, found.2))
    (λ none. inr (λ e is. none.0 e (k.0, is), none.1)) h.2 in (
      h.0 + rest.0,
      subst (λ fs. IsSum (λ (f : File). CostsIfFound (EnvelopeOf f.bytes) HasSignatures) fs
          (h.0 + rest.0)) (sym k.1.1) (h.0, rest.0, here, rest.1, refl),
      omega (arith, h.4, rest.2),
    ))
    (λ k. let rest = claimed_sum step files claimed h.1 k.1 h.3 in
    (rest.0, rest.1, omega (arith, h.4, rest.2))) are

-- ---- the signers of a step
module _ (sub : Costing) (setting : Setting) (layout : Layout) (bundle : Contents) (step : Step)
    (candidates : List Envelope) (are : AreCandidates step.name (files_of bundle) candidates)
    (n : ℕ) (cost : StepCosts sub setting layout bundle step n) where
  part : List ℕ → ℕ
  part id = share sub setting layout bundle step id cost.of_sublayouts.bodies cost.sublayouts
      cost.of_sublayouts.sum

  each_within : (id payload : List ℕ) (sublayout : Layout)
      → Counted setting layout bundle step id payload → LayoutOf payload sublayout → (m : ℕ)
      × sub sublayout (folder_of step.name id bundle) m × (m ≤ part id)
  unfolding part
  each_within id payload sublayout counted is =
      in_share sub setting layout bundle step id payload sublayout cost.of_sublayouts.bodies
      cost.sublayouts cost.of_sublayouts.sum
      ((cost.of_sublayouts.are_those id payload).1 (record {
        sublayout = sublayout;
        counted = counted;
        reads = is;
      })) is

  sum_ids : (found : List Signer)
      → IsSum (λ signer. IdCosts sub setting layout bundle step (signature_count candidates)
      signer.id.now) found (total (λ signer. signature_count candidates + part signer.id.now) found)
  sum_ids [] = refl
  sum_ids (signer ∷ found) = (
    signature_count candidates + part signer.id.now,
    total (λ (s : Signer). signature_count candidates + part s.id.now) found,
    record { sublayouts = part signer.id.now; within = each_within signer.id.now; sum = refl },
    sum_ids found,
    refl,
  )

  by_entries : (found : List Signer) → total (λ signer. part signer.id.now) found ≡ total
      (λ e. part e.0) (map entry_of found)
  by_entries [] = refl
  by_entries (signer ∷ found) = ap (λ m. part signer.id.now + m) (by_entries found)

  -- they cost no more than the step
  pub ids_cost : (found : List Signer) → map entry_of found ≡ signers layout step
      → (m : ℕ) × IsSum (λ signer. IdCosts sub setting layout bundle step
      (signature_count candidates) signer.id.now) found m × (m ≤ n)
  unfolding part
  ids_cost found same =
      let rises = rises_filter (is_listed step) (entries layout.keys)
      (entries_sorted layout.keys) in
      let few = few_ids step.pubkeys (signers layout step) rises
      (λ e c. (is_member-Decides bytes_eq-Decides step.pubkeys e.0).0
      ((of_filter (is_listed step) (entries layout.keys) e c).0)) in
      let number : length found ≡ length (signers layout step) = sym (length-map found entry_of)
      ∙ ap length same in
      let files = claimed_sum step (files_of bundle) are.0 cost.signatures are.1 cost.of_files in
      let signed : signature_count candidates ≤ files.0 = are.2.most files.0 files.1 in
      let each : length found * signature_count candidates ≤ distinct_count bytes_eq step.pubkeys *
      cost.signatures =
      mul-le (length found) (signature_count candidates) (distinct_count bytes_eq step.pubkeys)
      cost.signatures (omega (arith, few, number)) (omega (arith, signed, files.2)) in
      let shares : total (λ signer. part signer.id.now) found ≤ cost.sublayouts =
      rw (by_entries found, same) (shares_within sub setting layout bundle step
      (signers layout step) rises cost.of_sublayouts.bodies cost.sublayouts
      cost.of_sublayouts.sum) in
      let split = total_more (signature_count candidates) (λ (signer : Signer). part signer.id.now)
      found in (
        total (λ signer. signature_count candidates + part signer.id.now) found,
        sum_ids found,
        omega (arith, split, each, shares, cost.sum),
      )
