-- That a layout over a bundle costs some number of checks, and takes some number at the least.
use Rattle.std.proofs.Common.{◌≡◌, ℕ, zero, suc, ◌+◌, ◌*◌, List, [], ◌∷◌, ◌++◌, length, map}
use Rattle.std.proofs.Common.{filter_map, Bool, true, false, Option, None, Some, inr, ⊎_elim}
use Rattle.std.proofs.Common.{bytes_eq, Contains, refl, sym, subst, ◌∙◌}
use Rattle.std.specs.FinMap.{entries, get}
use Rattle.std.specs.Set.{distinct_count, unique_keys}
use Rattle.std.proofs.lemmas.List.Elements.{Contains-append_cases, Contains-append_left}
use Rattle.std.proofs.lemmas.List.Elements.{Contains-append_right}
use Rattle.std.proofs.lemmas.Map.Made.{is_member-Decides}
use Rattle.std.proofs.lemmas.Option.{same_Some}
use Rattle.std.proofs.lemmas.Slice.Eq.{bytes_eq-Decides}
use Rattle.it_base.specs.Finds.{Finds}
use Rattle.it_base.proofs.Sums.{some_if_found, some_sum}
use Rattle.it_base.specs.Sum.{CostsIfFound}
use Rattle.it_dsse.specs.Panel.{KeyNumber}
use Rattle.it_dsse.specs.Envelope.{EnvelopeOf}
use Rattle.it_dsse.specs.declared.key_object.KeyObject.{KeyObject}
use Rattle.it_docs.specs.Layout.{LayoutOf}
use Rattle.it_docs.specs.declared.layout.Layout.{Layout}
use Rattle.it_docs.specs.declared.step.Step.{Step}
use Rattle.it_rules.proofs.Listed.{Contains-from_place, Contains-map, Contains-map_cases, place_of}
use Rattle.it_chain.specs.Answer.{payloads_for, signers}
use Rattle.it_chain.specs.Contents.{Contents, files_of}
use Rattle.it_chain.specs.Cost.{Costing, ChainCosts, FileHas, HasSignatures, IsSublayout}
use Rattle.it_chain.specs.Cost.{LevelCosts, StepCosts, SublayoutsCost, no_cost}
use Rattle.it_chain.specs.CountedBodies.{Setting, Body}
use Rattle.it_chain.specs.Threshold.{KeyCounts, same_key}
use Rattle.it_chain.specs.Fewest.{ChainFewest, LevelFewest, StepFewest}
use Rattle.it_chain.specs.Lower.{AnswersRight, Lower}
use Rattle.it_chain.specs.ClaimedFiles.{IsClaimed}
use Rattle.it_chain.specs.Sublayouts.{folder_of}
use Rattle.it_chain.specs.declared.bundle.File.{File}
use Rattle.it_chain.proofs.Counting.{counts, listed}
use Rattle.it_chain.proofs.Decided.{the_lower, the_lower-right}
use Rattle.it_chain.proofs.Entries.{entry_known, known_entry}
use Rattle.it_chain.proofs.Members.{in_cases, in_filter, in_filter_map, in_head, in_none, in_tail}
use Rattle.it_chain.proofs.Members.{of_filter, of_filter_map}
use Rattle.it_chain.proofs.Numbers.{found_of}
use Rattle.it_chain.proofs.Records.{is_listed}
use Rattle.it_chain.proofs.Uniques.{in_unique, pair_eq, pair_eq-Decides, of_unique, unique_differ}

-- ---- what is found
finds_both : {X : Type 0} (A : Type 0) (P : X → Type 0) → A → (found : Option X) → Finds P found
    → Finds (λ x. A × P x) found
finds_both A P a None none = λ x both. none x both.1
finds_both A P a (Some x) is = (a, is)

-- the pair of an id and a payload that reads as a layout
abbrev pair_if : List ℕ → List ℕ → Option Layout → Option (List ℕ × List ℕ)
pair_if id payload None = None
pair_if id payload (Some sublayout) = Some (id, payload)

found_at : (id payload : List ℕ) (sublayout : Layout) (found : Option Layout)
    → Finds (LayoutOf payload) found → LayoutOf payload sublayout → pair_if id payload found ≡ Some
    (id, payload)
found_at id payload sublayout None none is = absurd (none sublayout is)
found_at id payload sublayout (Some l) found is = refl

read_at : (id payload : List ℕ) (pair : List ℕ × List ℕ) (found : Option Layout)
    → Finds (LayoutOf payload) found → pair_if id payload found ≡ Some pair → (l : Layout)
    × LayoutOf payload l × ((id, payload) ≡ pair)
read_at id payload pair None none e = cc
read_at id payload pair (Some l) is e = (l, is, same_Some (id, payload) pair e)

-- ---- what is listed for each of some elements
module _ {X Y : Type 0} (f : X → List Y) where
  joined : List X → List Y
  joined [] = []
  joined (x ∷ xs) = f x ++ joined xs

  in_joined : (xs : List X) (x : X) (y : Y) → Contains xs x → Contains (f x) y
      → Contains (joined xs) y
  unfolding joined
  in_joined [] x y c d = absurd (in_none x c)
  in_joined (z ∷ xs) x y c d =
      ⊎_elim (λ head. Contains-append_left (f z) (joined xs) y
      (subst (λ w. Contains (f w) y) (sym head) d))
      (λ later. Contains-append_right (f z) (joined xs) y (in_joined xs x y later d))
      (in_cases z xs x c)

  of_joined : (xs : List X) (y : Y) → Contains (joined xs) y → (x : X) × Contains xs x
      × Contains (f x) y
  unfolding joined
  of_joined [] y c = absurd (in_none y c)
  of_joined (z ∷ xs) y c =
      ⊎_elim (λ here. (z, in_head z xs, here)) (λ later. let found = of_joined xs y later in
      (found.0, in_tail z xs found.0 found.1, found.2))
      (Contains-append_cases (f z) (joined xs) y c)

module _ (lower : Lower) (right : AnswersRight lower) where
  -- ---- the signatures of the files that are claimed
  file_has : (step : Step) (file : File) (claimed : Bool) → lower.is_claimed step.name file.name
      ≡ claimed → (n : ℕ) × FileHas step file n
  file_has step file true is =
      some_if_found (λ envelope. IsClaimed step.name file.name × EnvelopeOf file.bytes envelope)
      HasSignatures (λ envelope. (length envelope.signatures, refl))
      (lower.envelope_of file.bytes)
      (finds_both (IsClaimed step.name file.name) (EnvelopeOf file.bytes)
      ((right.claimed step.name file.name).0 is) (lower.envelope_of file.bytes)
      (right.envelope file.bytes))
  file_has step file false is = (
    0,
    inr (
      λ envelope h. let claimed : lower.is_claimed step.name file.name
          ≡ true = (right.claimed step.name file.name).1 h.0 in cc,
      refl,
    ),
  )

  -- ---- the sublayouts that count
  module _ (setting : Setting) (layout : Layout) (bundle : Contents) (step : Step) where
    abbrev sublayout_at : List ℕ → List ℕ × Body → Option (List ℕ × List ℕ)
    sublayout_at id body = pair_if id body.0 (lower.layout_of body.0)

    of_key : List ℕ → Option KeyNumber → List (List ℕ × List ℕ)
    of_key id None = []
    of_key id (Some key) =
        filter_map (sublayout_at id) (payloads_for lower setting step bundle id key)

    abbrev of_signer : List ℕ × KeyObject → List (List ℕ × List ℕ)
    of_signer signer = of_key signer.0 (setting.panel.key_of signer.0 signer.1)

    sublayouts : List (List ℕ × List ℕ)
    sublayouts = unique_keys pair_eq (joined of_signer (signers layout step))

    counted_in : (id payload : List ℕ) → IsSublayout setting layout bundle step id payload
        → Contains sublayouts (id, payload)
    unfolding sublayouts of_key
    counted_in id payload h =
        let c = h.counted in
        let signer : Contains (signers layout step) (id, c.object) =
        in_filter (is_listed step) (entries layout.keys) (id, c.object)
        ((is_member-Decides bytes_eq-Decides step.pubkeys id).1 c.listed)
        (known_entry layout.keys id c.object c.known) in
        let among : Contains (of_key id (Some c.key)) (id, payload) =
        in_filter_map (sublayout_at id) (payloads_for lower setting step bundle id c.key)
        (payload, c.body) (id, payload)
        (found_at id payload h.sublayout (lower.layout_of payload) (right.layout payload)
        h.reads)
        (listed lower right setting step layout bundle id payload c) in
        in_unique pair_eq pair_eq-Decides (joined of_signer (signers layout step)) (id, payload)
        (in_joined of_signer (signers layout step) (id, c.object) (id, payload) signer
        (subst (λ k. Contains (of_key id k) (id, payload)) (sym c.signed.key) among))

    of_numbered : (id : List ℕ) (object : KeyObject) (pair : List ℕ × List ℕ)
        → Contains step.pubkeys id → get layout.keys id ≡ Some object → (number : Option KeyNumber)
        → setting.panel.key_of id object ≡ number
        → Contains (of_key id number) pair → IsSublayout setting layout bundle step pair.0 pair.1
    unfolding of_key
    of_numbered id object pair pubkey known None numbered c = absurd (in_none pair c)
    of_numbered id object pair pubkey known (Some key) numbered c =
        let made = of_filter_map (sublayout_at id) (payloads_for lower setting step bundle id key)
        pair c in
        let read = read_at id made.0.0 pair (lower.layout_of made.0.0) (right.layout made.0.0)
        made.1 in
        let counted = counts lower right setting step layout bundle id made.0.0 object key made.0.1
        pubkey known numbered made.2 in
        subst (λ (p : List ℕ × List ℕ). IsSublayout setting layout bundle step p.0 p.1) read.2
        (record { sublayout = read.0; counted = counted.0; reads = read.1 })

    counted_of : (id payload : List ℕ) → Contains sublayouts (id, payload)
        → IsSublayout setting layout bundle step id payload
    unfolding sublayouts
    counted_of id payload c =
        let signer = of_joined of_signer (signers layout step) (id, payload)
        (of_unique pair_eq pair_eq-Decides (joined of_signer (signers layout step))
        (id, payload) c) in
        let entry = of_filter (is_listed step) (entries layout.keys) signer.0 signer.1 in
        of_numbered signer.0.0 signer.0.1 (id, payload)
        ((is_member-Decides bytes_eq-Decides step.pubkeys signer.0.0).0 entry.0)
        (entry_known layout.keys signer.0 entry.1)
        (setting.panel.key_of signer.0.0 signer.0.1) refl signer.2

    pub sublayouts_cost : (sub : Costing) → ((l : Layout) (b : Contents) → (n : ℕ) × sub l b n)
        → (n : ℕ) × SublayoutsCost sub setting layout bundle step n
    unfolding sublayouts
    sublayouts_cost sub each =
        let below = some_sum (λ (body : List ℕ × List ℕ). CostsIfFound (LayoutOf body.1)
        (λ sublayout. sub sublayout (folder_of step.name body.0 bundle)))
        (λ body. some_if_found (LayoutOf body.1)
        (λ sublayout. sub sublayout (folder_of step.name body.0 bundle))
        (λ sublayout. each sublayout (folder_of step.name body.0 bundle))
        (lower.layout_of body.1) (right.layout body.1)) sublayouts in (
          below.0,
          record {
            bodies = sublayouts;
            once = unique_differ pair_eq pair_eq-Decides (joined of_signer (signers layout step));
            are_those = λ id payload. (counted_of id payload, counted_in id payload);
            sum = below.1;
          },
        )

    step_costs : (sub : Costing) → ((l : Layout) (b : Contents) → (n : ℕ) × sub l b n) → (n : ℕ)
        × StepCosts sub setting layout bundle step n
    step_costs sub each =
        let files = some_sum (FileHas step)
        (λ file. file_has step file (lower.is_claimed step.name file.name) refl)
        (files_of bundle) in
        let below = sublayouts_cost sub each in (
          distinct_count bytes_eq step.pubkeys * files.0 + below.0,
          record {
            signatures = files.0;
            sublayouts = below.0;
            of_files = files.1;
            of_sublayouts = below.1;
            sum = refl;
          },
        )

    -- ---- the keys that count
    keys_for : List ℕ → Option KeyNumber → List KeyNumber
    keys_for id None = []
    keys_for id (Some key) = map (λ _. key) (payloads_for lower setting step bundle id key)

    abbrev keys_by : List ℕ × KeyObject → List KeyNumber
    keys_by signer = keys_for signer.0 (setting.panel.key_of signer.0 signer.1)

    key_in : (key : KeyNumber) → KeyCounts setting layout bundle step key
        → Contains (joined keys_by (signers layout step)) key
    unfolding keys_for
    key_in key k =
        let c = k.counted in
        let signer : Contains (signers layout step) (k.id, c.object) =
        in_filter (is_listed step) (entries layout.keys) (k.id, c.object)
        ((is_member-Decides bytes_eq-Decides step.pubkeys k.id).1 c.listed)
        (known_entry layout.keys k.id c.object c.known) in
        let place = place_of (payloads_for lower setting step bundle k.id c.key) (k.payload, c.body)
        (listed lower right setting step layout bundle k.id k.payload c) in
        let among : Contains (keys_for k.id (Some c.key)) c.key =
        Contains-map (λ _. c.key) (payloads_for lower setting step bundle k.id c.key) place.0
        (k.payload, c.body) place.1 in
        in_joined keys_by (signers layout step) (k.id, c.object) key signer
        (subst (λ n. Contains (keys_for k.id n) key) (sym c.signed.key)
        (subst (Contains (keys_for k.id (Some c.key))) k.key_is among))

    key_numbered : (id : List ℕ) (object : KeyObject) (key : KeyNumber) → Contains step.pubkeys id
        → get layout.keys id ≡ Some object → (number : Option KeyNumber)
        → setting.panel.key_of id object ≡ number
        → Contains (keys_for id number) key → KeyCounts setting layout bundle step key
    unfolding keys_for
    key_numbered id object key pubkey known None numbered c = absurd (in_none key c)
    key_numbered id object key pubkey known (Some k) numbered c =
        let made = Contains-map_cases (λ (_ : List ℕ × Body). k)
        (payloads_for lower setting step bundle id k) key c in
        let counted = counts lower right setting step layout bundle id made.1.0 object k made.1.1
        pubkey known numbered (Contains-from_place (payloads_for lower setting step bundle id k)
        made.0 made.1 made.2) in
        record { id = id; payload = made.1.0; counted = counted.0; key_is = counted.1 ∙ made.3 }

    key_of : (key : KeyNumber) → Contains (joined keys_by (signers layout step)) key
        → KeyCounts setting layout bundle step key
    key_of key c =
        let signer = of_joined keys_by (signers layout step) key c in
        let entry = of_filter (is_listed step) (entries layout.keys) signer.0 signer.1 in
        key_numbered signer.0.0 signer.0.1 key
        ((is_member-Decides bytes_eq-Decides step.pubkeys signer.0.0).0 entry.0)
        (entry_known layout.keys signer.0 entry.1)
        (setting.panel.key_of signer.0.0 signer.0.1) refl signer.2

    step_fewest : (sub : Costing) → ((l : Layout) (b : Contents) → (n : ℕ) × sub l b n) → (n : ℕ)
        × StepFewest sub setting layout bundle step n
    step_fewest sub each =
        let keys = joined keys_by (signers layout step) in
        let below = sublayouts_cost sub each in (
          distinct_count same_key keys + below.0,
          record {
            keys = distinct_count same_key keys;
            sublayouts = below.0;
            of_keys = found_of setting layout bundle step keys (λ key. (key_of key, key_in key));
            of_sublayouts = below.1;
            sum = refl;
          },
        )

level_costs : (sub : Costing) → ((l : Layout) (b : Contents) → (n : ℕ) × sub l b n)
    → (setting : Setting) (layout : Layout) (bundle : Contents) → (n : ℕ)
    × LevelCosts sub setting layout bundle n
level_costs sub each setting layout bundle = some_sum (StepCosts sub setting layout bundle)
    (λ step. step_costs the_lower the_lower-right setting layout bundle step sub each) layout.steps

pub some_cost : (setting : Setting) (depth : ℕ) (layout : Layout) (bundle : Contents) → (n : ℕ)
    × ChainCosts setting depth layout bundle n
some_cost setting zero layout bundle = level_costs no_cost (λ l b. (0, refl)) setting layout bundle
some_cost setting (suc depth) layout bundle = level_costs (ChainCosts setting depth)
    (some_cost setting depth) setting layout bundle

level_fewest : (sub : Costing) → ((l : Layout) (b : Contents) → (n : ℕ) × sub l b n)
    → (setting : Setting) (layout : Layout) (bundle : Contents) → (n : ℕ)
    × LevelFewest sub setting layout bundle n
level_fewest sub each setting layout bundle = some_sum (StepFewest sub setting layout bundle)
    (λ step. step_fewest the_lower the_lower-right setting layout bundle step sub each) layout.steps

pub some_fewest : (setting : Setting) (depth : ℕ) (layout : Layout) (bundle : Contents) → (n : ℕ)
    × ChainFewest setting depth layout bundle n
some_fewest setting zero layout bundle = level_fewest no_cost (λ l b. (0, refl)) setting layout
    bundle
some_fewest setting (suc depth) layout bundle = level_fewest (ChainFewest setting depth)
    (some_fewest setting depth) setting layout bundle
