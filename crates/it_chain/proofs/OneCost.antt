-- That a layout over a bundle costs one number of checks, and takes one number at the least.
use Rattle.std.proofs.Common.{◌≡◌, ◌≢◌, ◌↔◌, ℕ, zero, suc, ◌+◌, ◌*◌, ◌≤◌, List, [], ◌∷◌, Bool, true}
use Rattle.std.proofs.Common.{false, Decides, inl, inr, ⊎_elim, bytes_eq, Contains, refl, sym}
use Rattle.std.proofs.Common.{subst, arith, ◌∙◌}
use Rattle.std.specs.List.{AllByRecursion, AllPairs, IsDistinct}
use Rattle.std.specs.Set.{distinct_count}
use Rattle.std.proofs.lemmas.Map.Keys.{IsDistinct-head, IsDistinct-tail}
use Rattle.std.proofs.lemmas.Map.Made.{IsDistinct-from_AllPairs}
use Rattle.it_base.specs.Sum.{CostsIfFound, IsSum}
use Rattle.it_base.proofs.Sums.{IsOne, one_if_found, one_sum}
use Rattle.it_dsse.specs.Envelope.{EnvelopeOf}
use Rattle.it_docs.specs.Layout.{LayoutOf}
use Rattle.it_docs.specs.declared.layout.Layout.{Layout}
use Rattle.it_docs.specs.declared.step.Step.{Step}
use Rattle.it_docs.proofs.Same.{layout_same}
use Rattle.it_chain.specs.Contents.{Contents, files_of}
use Rattle.it_chain.specs.Cost.{Costing, ChainCosts, FileHas, HasSignatures, LevelCosts, StepCosts}
use Rattle.it_chain.specs.Cost.{SublayoutsCost, no_cost}
use Rattle.it_chain.specs.CountedBodies.{Setting}
use Rattle.it_chain.specs.Fewest.{ChainFewest, LevelFewest, StepFewest}
use Rattle.it_chain.specs.ClaimedFiles.{IsClaimed}
use Rattle.it_chain.specs.Sublayouts.{folder_of}
use Rattle.it_chain.proofs.Documents.{envelope_same}
use Rattle.it_chain.proofs.Members.{in_cases, in_head, in_none, in_tail}
use Rattle.it_chain.proofs.Numbers.{found_one}
use Rattle.it_chain.proofs.Uniques.{pair_eq, pair_eq-Decides}

pub all_are : {X : Type 0} (P : X → Type 0) (xs : List X) → AllByRecursion P xs → (x : X)
    → Contains xs x → P x
all_are P [] all x c = absurd (in_none x c)
all_are P (y ∷ ys) all x c = ⊎_elim (λ same. subst P same all.0) (all_are P ys all.1 x)
    (in_cases y ys x c)

-- ---- sums
module _ {X : Type 0} (Cost : X → ℕ → Type 0) (one : IsOne Cost) where
  -- a sum, one element apart from the rest
  apart_from : (xs : List X) (n : ℕ) (x : X) → Contains xs x → IsSum Cost xs n
      → (a : ℕ) × (rest : List X) × (b : ℕ) × Cost x a × IsSum Cost rest b × (n ≡ a + b)
      × ((y : X) → Contains xs y → x ≢ y → Contains rest y)
  apart_from [] n x c h = absurd (in_none x c)
  apart_from (y ∷ ys) n x c h = elim (in_cases y ys x c) [
    | inl same ↦ (
      h.0,
      ys,
      h.1,
      subst (λ z. Cost z h.0) same h.2,
      h.3,
      h.4,
      λ z among differ. ⊎_elim (λ head. absurd (differ (sym same ∙ head))) (λ behind. behind)
          (in_cases y ys z among),
    )
    | inr later ↦ let rest = apart_from ys h.1 x later h.3 in (
      rest.0,
      y ∷ rest.1,
      h.0 + rest.2,
      rest.3,
      (h.0, rest.2, h.2, rest.4, refl),
      omega (arith, h.4, rest.5),
      λ z among differ. ⊎_elim (λ head. subst (Contains (y ∷ rest.1)) head (in_head y rest.1))
          (λ behind. in_tail y rest.1 z (rest.6 z behind differ)) (in_cases y ys z among),
    )
  ]

  module _ (eq : X → X → Bool) (same : (a b : X) → Decides (eq a b) (a ≡ b)) where
    pub no_more : (xs ys : List X) (m n : ℕ) → IsDistinct eq xs
        → ((x : X) → Contains xs x → Contains ys x) → IsSum Cost xs m → IsSum Cost ys n → m ≤ n
    no_more [] ys m n distinct there h k = omega (arith, h)
    no_more (x ∷ xs) ys m n distinct there h k =
        let rest = apart_from ys n x (there x (in_head x xs)) k in
        let first = one x h.0 rest.0 h.2 rest.3 in
        let differs : (z : X) → Contains xs z → x ≢ z =
        λ z c e. let unlike : eq x z ≡ false =
        all_are (λ y. eq x y ≡ false) xs (IsDistinct-head eq x xs distinct) z c in
        let alike : eq x z ≡ true = (same x z).1 e in cc in
        let others = no_more xs rest.1 h.1 rest.2 (IsDistinct-tail eq x xs distinct)
        (λ z c. rest.6 z (there z (in_tail x xs z c)) (differs z c)) h.3 rest.4 in
        omega (arith, first, others, h.4, rest.5)

    -- lists with the same elements, each once, cost the same
    one_of_same : (xs ys : List X) (m n : ℕ) → AllPairs (λ a b. a ≢ b) xs
        → AllPairs (λ a b. a ≢ b) ys → ((x : X) → Contains xs x ↔ Contains ys x) → IsSum Cost xs m
        → IsSum Cost ys n → m ≡ n
    one_of_same xs ys m n d e those h k =
        let below = no_more xs ys m n (IsDistinct-from_AllPairs same xs d) (λ x. (those x).0) h k in
        let above = no_more ys xs n m (IsDistinct-from_AllPairs same ys e) (λ x. (those x).1) k h in
        omega (arith, below, above)

-- ---- a level, what its sublayouts cost being one number
module _ (sub : Costing) (one : (layout : Layout) → IsOne (sub layout)) (setting : Setting)
    (layout : Layout) (bundle : Contents) where
  one_file : (step : Step) → IsOne (FileHas step)
  one_file step file m n =
      one_if_found (λ envelope. IsClaimed step.name file.name × EnvelopeOf file.bytes envelope)
      HasSignatures (λ x y h k. envelope_same file.bytes x y h.1 k.1) (λ x a b h k. h ∙ sym k) m
      n

  module _ (step : Step) where
    abbrev OfBody : List ℕ × List ℕ → ℕ → Type 0
    OfBody body = CostsIfFound (LayoutOf body.1)
        (λ sublayout. sub sublayout (folder_of step.name body.0 bundle))

    one_body : IsOne OfBody
    one_body body m n =
        one_if_found (LayoutOf body.1)
        (λ sublayout. sub sublayout (folder_of step.name body.0 bundle)) (layout_same body.1)
        (λ sublayout. one sublayout (folder_of step.name body.0 bundle)) m n

    pub one_of_sublayouts : (m n : ℕ) → SublayoutsCost sub setting layout bundle step m
        → SublayoutsCost sub setting layout bundle step n → m ≡ n
    one_of_sublayouts m n a b =
        one_of_same OfBody one_body pair_eq pair_eq-Decides a.bodies b.bodies m n a.once b.once
        (λ pair. (
          λ c. (b.are_those pair.0 pair.1).1 ((a.are_those pair.0 pair.1).0 c),
          λ c. (a.are_those pair.0 pair.1).1 ((b.are_those pair.0 pair.1).0 c),
        )) a.sum b.sum

  one_step : IsOne (StepCosts sub setting layout bundle)
  one_step step m n a b =
      let signatures = one_sum (FileHas step) (one_file step) (files_of bundle) a.signatures
      b.signatures a.of_files b.of_files in
      let sublayouts = one_of_sublayouts step a.sublayouts b.sublayouts a.of_sublayouts
      b.of_sublayouts in
      a.sum ∙ (λ i. distinct_count bytes_eq step.pubkeys * signatures i + sublayouts i) ∙ sym b.sum

  one_fewest_step : IsOne (StepFewest sub setting layout bundle)
  one_fewest_step step m n a b =
      let keys = found_one setting layout bundle step a.keys b.keys a.of_keys b.of_keys in
      let sublayouts = one_of_sublayouts step a.sublayouts b.sublayouts a.of_sublayouts
      b.of_sublayouts in
      omega (arith, keys, sublayouts, a.sum, b.sum)

  one_fewest_level : (m n : ℕ) → LevelFewest sub setting layout bundle m
      → LevelFewest sub setting layout bundle n → m ≡ n
  one_fewest_level m n = one_sum (StepFewest sub setting layout bundle) one_fewest_step layout.steps
      m n

  one_level : (m n : ℕ) → LevelCosts sub setting layout bundle m
      → LevelCosts sub setting layout bundle n → m ≡ n
  one_level m n = one_sum (StepCosts sub setting layout bundle) one_step layout.steps m n

pub one_cost : (setting : Setting) (depth : ℕ) (layout : Layout) (bundle : Contents) (m n : ℕ)
    → ChainCosts setting depth layout bundle m → ChainCosts setting depth layout bundle n → m ≡ n
one_cost setting zero layout bundle = one_level no_cost (λ l b m n h k. h ∙ sym k) setting layout
    bundle
one_cost setting (suc depth) layout bundle = one_level (ChainCosts setting depth)
    (one_cost setting depth) setting layout bundle

pub one_fewest : (setting : Setting) (depth : ℕ) (layout : Layout) (bundle : Contents) (m n : ℕ)
    → ChainFewest setting depth layout bundle m → ChainFewest setting depth layout bundle n → m ≡ n
one_fewest setting zero layout bundle = one_fewest_level no_cost (λ l b m n h k. h ∙ sym k) setting
    layout bundle
one_fewest setting (suc depth) layout bundle = one_fewest_level (ChainFewest setting depth)
    (one_fewest setting depth) setting layout bundle
