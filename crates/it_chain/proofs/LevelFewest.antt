-- How far at the least the functions that verify a level raise the meter, put together.
use Rattle.std.proofs.Common.{◌≡◌, ℕ, zero, suc, ◌+◌, ◌≤◌, List, [], ◌∷◌, ◌++◌, map, length, Option}
use Rattle.std.proofs.Common.{None, Some, Result, Ok, Err, IfOk, Bool, true, false, append-nil}
use Rattle.std.proofs.Common.{Contains, inl, inr, ⊎_elim, bytes_eq, refl, sym, subst, arith, ◌∙◌}
use Rattle.std.specs.List.{AllByRecursion, IsDistinct}
use Rattle.std.proofs.lemmas.List.{length-map}
use Rattle.std.proofs.lemmas.Map.Made.{IsDistinct-from_AllPairs, distinct_count-le}
use Rattle.std.proofs.lemmas.Slice.Eq.{bytes_eq-Decides}
use Rattle.it_base.specs.Sum.{CostsIfFound, IsSum}
use Rattle.it_base.proofs.Sums.{IsOne, one_if_found}
use Rattle.it_dsse.specs.Panel.{KeyNumber}
use Rattle.it_dsse.specs.declared.meter.Meter.{Meter}
use Rattle.it_docs.specs.Layout.{LayoutOf}
use Rattle.it_docs.specs.declared.layout.Layout.{Layout}
use Rattle.it_docs.specs.declared.step.Step.{Step}
use Rattle.it_docs.proofs.Same.{layout_same}
use Rattle.it_rules.proofs.Listed.{Contains-map, place_of}
use Rattle.it_rules.specs.Item.{Recorded}
use Rattle.it_chain.specs.Answer.{with_record}
use Rattle.it_chain.specs.Fewest.{fewest_below}
use Rattle.it_chain.specs.Raised.{RaisedAtLeast, RaisedWithin}
use Rattle.it_chain.specs.inside.Asked.{BodyFewest, CountsFor, GivenFewest, IdFewest}
use Rattle.it_chain.specs.inside.Asked.{RecordsFewest, SignaturesIn, SublayoutFewest}
use Rattle.it_chain.specs.Contents.{Contents}
use Rattle.it_chain.specs.Cost.{Costing, IsSublayout}
use Rattle.it_chain.specs.CountedBodies.{Setting, Body, of_link, of_layout, BodyOf, Counted}
use Rattle.it_chain.specs.Threshold.{same_key}
use Rattle.it_chain.specs.Fewest.{ChainFewest, LevelFewest, StepFewest}
use Rattle.it_chain.specs.First.{Failing}
use Rattle.it_chain.specs.Level.{Holding}
use Rattle.it_chain.specs.Sublayouts.{folder_of}
use Rattle.it_chain.specs.inside.IdRecords.{AreRecords, IsGiven, IsRecordOf}
use Rattle.it_chain.specs.inside.Threshold.{keys_of}
use Rattle.it_dsse.specs.declared.envelope.Envelope.{Envelope}
use Rattle.it_chain.specs.declared.chain.Chain.{Chain as ChainOf}
use Rattle.it_chain.specs.declared.chain.StepResult.{StepResult}
use Rattle.it_chain.specs.declared.record.IdRecord.{IdRecord}
use Rattle.it_chain.specs.declared.refusal.ChainError.{ChainError}
use Rattle.it_chain.proofs.Asking.{least_of, least_push, least_then, least_weaker}
use Rattle.it_chain.proofs.Documents.{link_or_layout}
use Rattle.it_chain.proofs.Ids.{OneBody}
use Rattle.it_chain.proofs.Judging.{is_found}
use Rattle.it_chain.proofs.Levels.{HoldsOneWay}
use Rattle.it_chain.proofs.Members.{in_cases, in_head, in_none, in_tail}
use Rattle.it_chain.proofs.Numbers.{found_one}
use Rattle.it_chain.proofs.OneCost.{all_are, no_more, one_fewest}
use Rattle.it_chain.proofs.SomeCost.{some_fewest}
use Rattle.it_chain.proofs.Uniques.{pair_eq, pair_eq-Decides}

-- ---- one level and the level below
fewest_of : (setting : Setting) (depth : ℕ) (layout : Layout) (bundle : Contents) (n : ℕ)
    → ChainFewest setting depth layout bundle n → LevelFewest (fewest_below setting depth) setting
    layout bundle n
fewest_of setting zero layout bundle n h = h
fewest_of setting (suc depth) layout bundle n h = h

pub one_fewest_below : (setting : Setting) (depth : ℕ) (layout : Layout)
    → IsOne (fewest_below setting depth layout)
one_fewest_below setting zero layout bundle m n h k = h ∙ sym k
one_fewest_below setting (suc depth) layout bundle m n h k =
    one_fewest setting depth layout bundle m n h k

pub some_fewest_below : (setting : Setting) (depth : ℕ) (layout : Layout) (bundle : Contents)
    → (n : ℕ) × fewest_below setting depth layout bundle n
some_fewest_below setting zero layout bundle = (0, refl)
some_fewest_below setting (suc depth) layout bundle = some_fewest setting depth layout bundle

module _ (setting : Setting) (layout : Layout) (bundle : Contents) (old new : Meter) where
  -- a level takes what the functions say of it
  pub level_takes : (depth : ℕ)
      → RaisedAtLeast (LevelFewest (fewest_below setting depth) setting layout bundle) old new
      → RaisedAtLeast (ChainFewest setting depth layout bundle) old new
  level_takes depth = least_weaker (LevelFewest (fewest_below setting depth) setting layout bundle)
      (ChainFewest setting depth layout bundle) old new
      (λ n h. (n, fewest_of setting depth layout bundle n h, omega arith))

  pub chain_takes : {A : Type 0} (depth : ℕ) (a : Result A ChainError)
      → IfOk a (λ x. RaisedAtLeast (LevelFewest (fewest_below setting depth) setting layout bundle)
      old new)
      → IfOk a (λ x. RaisedAtLeast (ChainFewest setting depth layout bundle) old new)
  chain_takes depth (Ok x) h = level_takes depth h
  chain_takes depth (Err e) h = tt

  -- a sublayout takes what its own level does
  pub below_takes : (depth d : ℕ) → depth ≡ suc d → (a : Result ChainOf ChainError)
      → IfOk a (λ chain. RaisedAtLeast (LevelFewest (fewest_below setting d) setting layout bundle)
      old new)
      → IfOk a (λ chain. RaisedAtLeast (fewest_below setting depth layout bundle) old new)
  below_takes depth d is a h =
      subst (λ n. IfOk a (λ chain. RaisedAtLeast (fewest_below setting n layout bundle) old new))
      (sym is) (chain_takes d a h)

-- ---- the steps of a level
abbrev pub FewestSum : Setting → ℕ → Layout → Contents → List Step → ℕ → Type 0
FewestSum setting depth layout bundle =
    IsSum (StepFewest (fewest_below setting depth) setting layout bundle)

-- ---- the records of a step
module _ (costs : Costing) (one : (layout : Layout) → IsOne (costs layout))
    (some : (layout : Layout) (bundle : Contents) → (n : ℕ) × costs layout bundle n)
    (sub : Holding) (setting : Setting) (layout : Layout) (bundle : Contents) (step : Step) where
  abbrev OfId : List ℕ → ℕ → Type 0
  OfId = SublayoutFewest costs setting layout bundle step

  -- ---- an id that counts with a body
  body_takes : (id : List ℕ) (key : KeyNumber) (body : Body)
      → OneBody sub setting layout bundle step id key body → (m : ℕ) → OfId id m
      → BodyFewest costs bundle step.name id body m
  body_takes id key (of_link link) h m takes = ⊎_elim
      (λ found. absurd (link_or_layout h.payload link found.0 h.reads.0
      (subst (λ p. LayoutOf p found.0) (sym (h.alone found.1.0 found.1.1)) found.1.2)))
      (λ none. none.1) takes
  body_takes id key (of_layout sublayout) h m takes = ⊎_elim
      (λ found.
      let reads : LayoutOf h.payload found.0 =
      subst (λ p. LayoutOf p found.0) (sym (h.alone found.1.0 found.1.1)) found.1.2 in
      subst (λ l. costs l (folder_of step.name id bundle) m)
      (layout_same h.payload found.0 sublayout reads h.reads) found.2)
      (λ none. absurd (none.0 sublayout (h.payload, h.counted, h.reads))) takes

  -- a panel for its key, and what its body takes
  id_takes : (id : List ℕ) (key : KeyNumber) (body : Body)
      → OneBody sub setting layout bundle step id key body
      → (found : List Envelope) (old now new : Meter) → RaisedWithin 1 (SignaturesIn found) old now
      → RaisedAtLeast (BodyFewest costs bundle step.name id body) now new
      → RaisedAtLeast (IdFewest costs setting layout bundle step id) old new
  id_takes id key body h found old now new first next =
      least_then (λ n. n ≡ 1) (BodyFewest costs bundle step.name id body)
      (IdFewest costs setting layout bundle step id) old now new
      (λ n takes. (
        1,
        takes.0,
        refl,
        body_takes id key body h takes.0 takes.1,
        omega (arith, takes.2),
      )) (least_of 1 (SignaturesIn found) old now first) next

  -- the record of that body takes as much
  pub record_takes : (id : List ℕ) (key : KeyNumber) (body : Body)
      → OneBody sub setting layout bundle step id key body
      → (found : List Envelope) (old now new : Meter) → RaisedWithin 1 (SignaturesIn found) old now
      → (recorded : Result Recorded ChainError) (given : Result (Option IdRecord) ChainError)
      → IsRecordOf id key recorded given
      → IfOk recorded (λ _. RaisedAtLeast (BodyFewest costs bundle step.name id body) now new)
      → IfOk given (λ g. RaisedAtLeast (GivenFewest costs setting layout bundle step g) old new)
  record_takes id key body h found old now new first (Ok recorded) (Ok given) is next =
      subst (λ g. RaisedAtLeast (GivenFewest costs setting layout bundle step g) old new) (sym is)
      (id_takes id key body h found old now new first next)
  record_takes id key body h found old now new first (Err e) (Ok given) is next = absurd is
  record_takes id key body h found old now new first recorded (Err e) is next = tt

  -- ---- one record more, or none
  pub given_more : (given : Option IdRecord) (records : List IdRecord) (old now new : Meter)
      → RaisedAtLeast (RecordsFewest costs setting layout bundle step records) old now
      → RaisedAtLeast (GivenFewest costs setting layout bundle step given) now new
      → RaisedAtLeast (RecordsFewest costs setting layout bundle step
      (records ++ with_record given [])) old new
  given_more None records old now new before next =
      subst (λ rs. RaisedAtLeast (RecordsFewest costs setting layout bundle step rs) old new)
      (sym (append-nil records))
      (least_then (RecordsFewest costs setting layout bundle step records) (λ n. n ≡ 0)
      (RecordsFewest costs setting layout bundle step records) old now new
      (λ n h. (n, 0, h, refl, omega arith)) before next)
  given_more (Some r) records old now new before next =
      least_push (λ (q : IdRecord). IdFewest costs setting layout bundle step q.id) old now new
      records r before next

  -- ---- all records
  module _ (records : List IdRecord) (are : AreRecords sub setting layout bundle step records) where
    one_payload : (id a b : List ℕ) → Counted setting layout bundle step id a
        → Counted setting layout bundle step id b → a ≡ b
    one_payload id a b c d = let r = are.all id a c in sym (r.2.alone a c) ∙ r.2.alone b d

    one_id : IsOne OfId
    one_id id m n = one_if_found (CountsFor costs setting layout bundle step id)
        (λ sublayout. costs sublayout (folder_of step.name id bundle))
        (λ x y h k. layout_same h.0 x y h.2
        (subst (λ p. LayoutOf p y) (sym (one_payload id h.0 k.0 h.1 k.1)) k.2))
        (λ sublayout. one sublayout (folder_of step.name id bundle)) m n

    -- what its sublayout takes, if it has one
    of_body : (id payload : List ℕ) (body : Body) → BodyOf step.name payload body
        → Counted setting layout bundle step id payload
        → ((other : List ℕ) → Counted setting layout bundle step id other → payload ≡ other)
        → (m : ℕ) × OfId id m
    of_body id payload (of_link link) reads counted alone = (
      0,
      inr (
        λ sublayout found. link_or_layout payload link sublayout reads.0
            (subst (λ p. LayoutOf p sublayout) (sym (alone found.0 found.1)) found.2),
        refl,
      ),
    )
    of_body id payload (of_layout sublayout) reads counted alone =
        let takes = some sublayout (folder_of step.name id bundle) in
        (takes.0, inl (sublayout, (payload, counted, reads), takes.1))

    of_records : (rs : List IdRecord)
        → ((r : IdRecord) → Contains rs r → IsGiven sub setting layout bundle step r.id r)
        → (m : ℕ) × IsSum OfId (map (λ (r : IdRecord). r.id) rs) m
        × RecordsFewest costs setting layout bundle step rs (length rs + m)
    of_records [] each = (0, refl, refl)
    of_records (r ∷ rs) each =
        let given = each r (in_head r rs) in
        let first = of_body r.id given.recorded.payload given.recorded.body given.recorded.reads
        given.recorded.counted given.alone in
        let rest = of_records rs (λ q c. each q (in_tail r rs q c)) in (
          first.0 + rest.0,
          (first.0, rest.0, first.1, rest.1, refl),
          (first.0 + 1, length rs + rest.0, (first.0, first.1, refl), rest.2, omega arith),
        )

    -- ---- the list of sublayouts, each by its id
    abbrev Pair : Type 0
    Pair = List ℕ × List ℕ

    abbrev ids_in : List Pair → List (List ℕ)
    ids_in bodies = map (λ (b : Pair). b.0) bodies

    module _ (those : List Pair) (are_those : (b : Pair) → Contains those b
        → IsSublayout setting layout bundle step b.0 b.1) where
      by_ids : (bodies : List Pair) → ((b : Pair) → Contains bodies b → Contains those b) → (n : ℕ)
          → IsSum (λ (b : Pair). CostsIfFound (LayoutOf b.1)
          (λ sublayout. costs sublayout (folder_of step.name b.0 bundle))) bodies n
          → IsSum OfId (ids_in bodies) n
      by_ids [] among n h = h
      by_ids (b ∷ bodies) among n h =
          let is = are_those b (among b (in_head b bodies)) in (
            h.0,
            h.1,
            ⊎_elim (λ found. inl (found.0, (b.1, is.counted, found.1), found.2))
                (λ none. absurd (none.0 is.sublayout is.reads)) h.2,
            by_ids bodies (λ c later. among c (in_tail b bodies c later)) h.1 h.3,
            h.4,
          )

      ids_among : (bodies : List Pair) → ((b : Pair) → Contains bodies b → Contains those b)
          → (id : List ℕ) → Contains (ids_in bodies) id → (payload : List ℕ)
          × Contains bodies (id, payload)
      ids_among [] among id c = absurd (in_none id c)
      ids_among (b ∷ bodies) among id c = elim (in_cases b.0 (ids_in bodies) id c) [
        | inl same ↦ (b.1, subst (λ i. Contains (b ∷ bodies) (i, b.1)) same (in_head b bodies))
        | inr later ↦ let rest = ids_among bodies (λ d e. among d (in_tail b bodies d e)) id
            later in (rest.0, in_tail b bodies (id, rest.0) rest.1)
      ]

      unlike : (a b : Pair) → Contains those a → Contains those b → (same : Bool)
          → bytes_eq a.0 b.0 ≡ same → pair_eq a b ≡ false → same ≡ false
      unlike a b c d true is differ =
          let id : a.0 ≡ b.0 = (bytes_eq-Decides a.0 b.0).0 is in
          let payload : a.1 ≡ b.1 =
          one_payload b.0 a.1 b.1 (subst (λ i. Counted setting layout bundle step i a.1) id
          (are_those a c).counted) (are_those b d).counted in
          let same : pair_eq a b ≡ true = (pair_eq-Decides a b).1 (λ i. (id i, payload i)) in
          cc
      unlike a b c d false is differ = refl

      all_unlike : (a : Pair) → Contains those a → (bodies : List Pair)
          → ((b : Pair) → Contains bodies b → Contains those b)
          → ((b : Pair) → Contains bodies b → pair_eq a b ≡ false)
          → AllByRecursion (λ id. bytes_eq a.0 id ≡ false) (ids_in bodies)
      all_unlike a c [] among differ = tt
      all_unlike a c (b ∷ bodies) among differ = (
        unlike a b c (among b (in_head b bodies)) (bytes_eq a.0 b.0) refl
            (differ b (in_head b bodies)),
        all_unlike a c bodies (λ d e. among d (in_tail b bodies d e))
            (λ d e. differ d (in_tail b bodies d e)),
      )

      ids_distinct : (bodies : List Pair) → ((b : Pair) → Contains bodies b → Contains those b)
          → IsDistinct pair_eq bodies → IsDistinct bytes_eq (ids_in bodies)
      unfolding IsDistinct
      ids_distinct [] among distinct = tt
      ids_distinct (b ∷ bodies) among distinct = (
        all_unlike b (among b (in_head b bodies)) bodies
            (λ c later. among c (in_tail b bodies c later))
            (all_are (λ y. pair_eq b y ≡ false) bodies distinct.0),
        ids_distinct bodies (λ c later. among c (in_tail b bodies c later)) distinct.1,
      )

    id_recorded : (id payload : List ℕ) → Counted setting layout bundle step id payload
        → Contains (map (λ (r : IdRecord). r.id) records) id
    id_recorded id payload counted =
        let r = are.all id payload counted in
        let place = place_of records r.0 r.1 in
        subst (Contains (map (λ (q : IdRecord). q.id) records)) r.2.id_is
        (Contains-map (λ (q : IdRecord). q.id) records place.0 r.0 place.1)

    takes_records : (fails : Failing) → HoldsOneWay sub → (n : ℕ)
        → StepFewest costs setting layout bundle step n → (m : ℕ)
        × RecordsFewest costs setting layout bundle step records m × (n ≤ m)
    takes_records fails one_way n h =
        let all = of_records records are.each in
        let those = h.of_sublayouts.bodies in
        let are_those : (b : Pair) → Contains those b
        → IsSublayout setting layout bundle step b.0 b.1 =
        λ b. (h.of_sublayouts.are_those b.0 b.1).0 in
        let keys = found_one setting layout bundle step h.keys (keys_of records) h.of_keys
        (is_found sub fails one_way setting layout bundle step records are) in
        let few = distinct_count-le same_key (map (λ (r : IdRecord). r.key) records) in
        let number = length-map records (λ (r : IdRecord). r.key) in
        let sublayouts : h.sublayouts ≤ all.0 =
        no_more OfId one_id bytes_eq bytes_eq-Decides (ids_in those)
        (map (λ (r : IdRecord). r.id) records) h.sublayouts all.0
        (ids_distinct those are_those those (λ b c. c)
        (IsDistinct-from_AllPairs pair_eq-Decides those h.of_sublayouts.once))
        (λ id c. let b = ids_among those are_those those (λ d e. e) id c in
        id_recorded id b.0 (are_those (id, b.0) b.1).counted)
        (by_ids those are_those those (λ b c. c) h.sublayouts h.of_sublayouts.sum) all.1 in
        (length records + all.0, all.2, omega (arith, h.sum, keys, few, number, sublayouts))

    -- the records take what the step does
    pub step_takes : (fails : Failing) → HoldsOneWay sub
        → (old new : Meter) (a : Result StepResult ChainError)
        → RaisedAtLeast (RecordsFewest costs setting layout bundle step records) old new
        → IfOk a (λ _. RaisedAtLeast (StepFewest costs setting layout bundle step) old new)
    step_takes fails one_way old new (Ok result) h =
        least_weaker (RecordsFewest costs setting layout bundle step records)
        (StepFewest costs setting layout bundle step) old new (takes_records fails one_way) h
    step_takes fails one_way old new (Err e) h = tt
