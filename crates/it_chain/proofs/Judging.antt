-- How the deciding functions judge the records of a step.
use Rattle.std.proofs.Common.{◌≡◌, ◌⊎◌, ◌↔◌, ℕ, ◌≤◌, List, [], ◌∷◌, map, true, Err, inl, inr}
use Rattle.std.proofs.Common.{⊎_elim, nat_lt, ltb-true, ltb-false, Contains, refl, sym, ap, subst}
use Rattle.std.proofs.Common.{◌∙◌, arith}
use Rattle.std.specs.Set.{distinct_count}
use Rattle.std.proofs.lemmas.Bool.{cond_both}
use Rattle.it_dsse.specs.Panel.{KeyNumber}
use Rattle.it_docs.specs.declared.layout.Layout.{Layout}
use Rattle.it_docs.specs.declared.step.Step.{Step}
use Rattle.it_rules.specs.Item.{Recorded}
use Rattle.it_rules.proofs.Listed.{Contains-from_place, Contains-map, Contains-map_cases, place_of}
use Rattle.it_chain.specs.Answer.{Answering, agreed, agreement, judged}
use Rattle.it_chain.specs.Contents.{Contents}
use Rattle.it_chain.specs.CountedBodies.{Setting}
use Rattle.it_chain.specs.Threshold.{KeyCounts, Found, same_key}
use Rattle.it_chain.specs.First.{Failing, ChainPlace, IsBefore, IsLeastOther, at_threshold}
use Rattle.it_chain.specs.First.{at_records, StandsInChain, here}
use Rattle.it_chain.specs.Level.{Holding, HasRecord, StepHolds}
use Rattle.it_chain.specs.Lower.{Lower, AnswersRight}
use Rattle.it_chain.specs.inside.IdRecords.{AreRecords, InOrder}
use Rattle.it_chain.specs.declared.record.IdRecord.{IdRecord}
use Rattle.it_chain.specs.declared.refusal.ChainFault.TheVariants.{Threshold, Disagree}
use Rattle.it_chain.specs.declared.refusal.ChainRefusal.{ChainRefusal}
use Rattle.it_chain.proofs.Alikes.{one_key}
use Rattle.it_chain.proofs.Levels.{HoldsOneWay, record_one}
use Rattle.it_chain.proofs.Members.{in_head, in_tail, in_cases, in_none}
use Rattle.it_chain.proofs.Numbers.{found_of, found_one}
use Rattle.it_chain.proofs.Outcomes.{Tells, tells_behind}
use Rattle.it_chain.proofs.Records.{none_before}

module _ (sub : Holding) (fails : Failing) (one : HoldsOneWay sub) (setting : Setting)
    (layout : Layout) (bundle : Contents) (step : Step) (records : List IdRecord)
    (are : AreRecords sub setting layout bundle step records) where
  abbrev At : ChainPlace → ChainRefusal → Type 0
  At = StandsInChain sub fails setting layout bundle

  abbrev Has : List ℕ → Recorded → Type 0
  Has = HasRecord sub setting layout bundle step

  -- ---- the number of different keys
  keys_are : (key : KeyNumber) → Contains (map (λ (r : IdRecord). r.key) records) key
      ↔ KeyCounts setting layout bundle step key
  keys_are key = (
    λ c. let found = Contains-map_cases (λ (r : IdRecord). r.key) records key c in
        let given = are.each found.1 (Contains-from_place records found.0 found.1 found.2) in
        record {
          id = found.1.id;
          payload = given.recorded.payload;
          counted = given.recorded.counted;
          key_is = given.key_is ∙ found.3;
        },
    λ k. let r = are.all k.id k.payload k.counted in
        let same : r.0.key ≡ key = sym r.2.key_is ∙ one_key setting layout bundle bundle step k.id
        r.2.recorded.payload k.payload r.2.recorded.counted k.counted ∙ k.key_is in
        let place = place_of records r.0 r.1 in
        subst (Contains (map (λ (q : IdRecord). q.key) records)) same
        (Contains-map (λ (q : IdRecord). q.key) records place.0 r.0 place.1),
  )

  pub is_found : Found setting layout bundle step
      (distinct_count same_key (map (λ (r : IdRecord). r.key) records))
  is_found = found_of setting layout bundle step (map (λ (r : IdRecord). r.key) records) keys_are

  -- where enough keys signed, nothing stands at the threshold
  pub not_few : (found : ℕ) → Found setting layout bundle step found → step.threshold ≤ found
      → (refusal : ChainRefusal) → ¬ At (at_threshold step) refusal
  not_few found is enough refusal x =
      let same : x.0 ≡ found = found_one setting layout bundle step x.0 found x.1.is_found is in
      let few = x.1.below in
      absurd (omega arith)

  -- ---- the records of the ids
  -- every record of an id is among those of the list
  pub record_among : (id : List ℕ) (recorded : Recorded) → Has id recorded → (r : IdRecord)
      × Contains records r × (r.id ≡ id) × (r.recorded ≡ recorded)
  record_among id recorded h =
      let r = are.all id h.payload h.counted in (
        r.0,
        r.1,
        r.2.id_is,
        record_one sub one setting bundle layout step id r.0.recorded recorded
            r.2.recorded h (r.2.alone h.payload h.counted),
      )

  -- a record is the first, or stands among those that are left
  abbrev pub AreLeft : IdRecord → List IdRecord → Type 0
  AreLeft first left = (id : List ℕ) (recorded : Recorded) → Has id recorded
      → (recorded ≡ first.recorded) ⊎ ((r : IdRecord) × Contains left r × (r.id ≡ id)
      × (r.recorded ≡ recorded))

  agree_all : (first : IdRecord) → AreLeft first [] → (id : List ℕ) (recorded : Recorded)
      → Has id recorded → recorded ≡ first.recorded
  agree_all first left id recorded h = ⊎_elim (λ same. same) (λ r. absurd (in_none r.0 r.1))
      (left id recorded h)

  -- where the next record is that of the first, what is left is behind it
  pub agree_next : (first q : IdRecord) (left : List IdRecord) → q.recorded ≡ first.recorded
      → AreLeft first (q ∷ left) → AreLeft first left
  agree_next first q left same h id recorded has = ⊎_elim inl
      (λ r. ⊎_elim (λ head. inl (sym r.3 ∙ ap (λ (x : IdRecord). x.recorded) (sym head) ∙ same))
      (λ later. inr (r.0, later, r.2, r.3)) (in_cases q left r.0 r.1)) (h id recorded has)

  -- where all records are that of the first, the step holds with it, and none differs
  pub all_hold : (found : ℕ) → Found setting layout bundle step found → step.threshold ≤ found
      → (first : IdRecord) → AreLeft first []
      → StepHolds sub setting layout bundle step (record {
        name = step.name;
        materials = first.recorded.materials;
        products =
            first.recorded.products;
        keys = found;
      })
  all_hold found is enough first left = record {
    name = refl;
    one_body = λ id payload other x y. let r = are.all id payload x in sym (r.2.alone payload x)
        ∙ r.2.alone other y;
    agree = λ id payload x. let r = are.all id payload x in
        subst (Has id) (agree_all first left id r.0.recorded r.2.recorded) r.2.recorded;
    keys = is;
    threshold = enough;
  }

  pub none_other : (first : IdRecord) → AreLeft first [] → (refusal : ChainRefusal)
      → ¬ At (at_records step) refusal
  none_other first left refusal x =
      let k = x.1 in
      k.differs (agree_all first left x.0 k.given k.of_id
      ∙ sym (agree_all first left k.least k.expected k.of_least))

  -- the first of those that are left is the least that differs
  pub least_other : (first : IdRecord) (others : List IdRecord) → records ≡ first ∷ others
      → (q : IdRecord) (left : List IdRecord) → Has q.id q.recorded → InOrder (q ∷ left)
      → AreLeft first (q ∷ left)
      → ¬ (q.recorded ≡ first.recorded) → IsLeastOther sub fails setting layout bundle step q.id
  least_other first others split q left has in_order h differs = record {
    least = first.id;
    expected = first.recorded;
    given = q.recorded;
    of_least = (are.each first (subst (λ rs. Contains rs first) (sym split)
        (in_head first others))).recorded;
    is_least = λ id recorded h before. let r = record_among id recorded h in
        none_before first others (subst InOrder split are.in_order) r.0
        (subst (λ rs. Contains rs r.0) split r.1)
        (subst (λ x. IsBefore x first.id) (sym r.2) before);
    of_id = has;
    differs = differs;
    is_first = λ id recorded has before. ⊎_elim (λ same. same)
        (λ r. absurd (none_before q left in_order r.0 r.1
        (subst (λ x. IsBefore x q.id) (sym r.2) before))) (h id recorded has);
  }

  module _ (lower : Lower) (right : AnswersRight lower) (answers : Answering) where
    tells_agreed : (found : ℕ) → Found setting layout bundle step found → step.threshold ≤ found
        → (first : IdRecord) (others : List IdRecord) → records ≡ first ∷ others
        → (left : List IdRecord)
        → ((r : IdRecord) → Contains left r → Has r.id r.recorded) → InOrder left
        → AreLeft first left
        → Tells At (at_records step ∷ []) (StepHolds sub setting layout bundle step)
        (agreed lower setting answers layout bundle step found first.recorded left)
    tells_agreed found is enough first others split [] each in_order h =
        ((none_other first h, tt), all_hold found is enough first h)
    tells_agreed found is enough first others split (q ∷ left) each in_order h =
        cond_both (lower.is_same q.recorded first.recorded)
        (agreed lower setting answers layout bundle step found first.recorded left)
        (Err (here (Disagree step.name q.id)))
        (Tells At (at_records step ∷ []) (StepHolds sub setting layout bundle step))
        (λ same. tells_agreed found is enough first others split left
        (λ r c. each r (in_tail q left r c)) in_order.1
        (agree_next first q left ((right.same q.recorded first.recorded).0 same) h))
        (λ differs. inl (
          q.id,
          least_other first others split q left (each q (in_head q left))
              in_order h (λ same. let is : lower.is_same q.recorded first.recorded
              ≡ true = (right.same q.recorded first.recorded).1 same in cc),
          refl,
        ))

    tells_agreement : (rs : List IdRecord) → records ≡ rs → step.threshold ≤ distinct_count same_key
        (map (λ (r : IdRecord). r.key) records)
        → Tells At (at_records step ∷ []) (StepHolds sub setting layout bundle step)
        (agreement lower setting answers layout bundle step
        (distinct_count same_key (map (λ (r : IdRecord). r.key) records)) rs)
    tells_agreement [] none enough =
        let zero_found : distinct_count same_key (map (λ (r : IdRecord). r.key) records) ≡ 0 =
        ap (λ rs. distinct_count same_key (map (λ (r : IdRecord). r.key) rs)) none in
        absurd (omega (arith, step.threshold_at_least_one))
    tells_agreement (first ∷ others) split enough =
        tells_agreed (distinct_count same_key (map (λ (r : IdRecord). r.key) records)) is_found
        enough first others split others
        (λ r c. (are.each r
        (subst (λ rs. Contains rs r) (sym split) (in_tail first others r c))).recorded)
        ((subst InOrder split are.in_order).1)
        (λ id recorded h. let r = record_among id recorded h in
        ⊎_elim (λ head. inl (sym r.3 ∙ ap (λ (x : IdRecord). x.recorded) (sym head)))
        (λ later. inr (r.0, later, r.2, r.3))
        (in_cases first others r.0 (subst (λ rs. Contains rs r.0) split r.1)))

    -- the step holds, or too few keys signed, or a record differs
    pub tells_judged : Tells At (at_threshold step ∷ at_records step ∷ [])
        (StepHolds sub setting layout bundle step)
        (judged lower setting answers layout bundle step records)
    unfolding judged
    tells_judged =
        let found = distinct_count same_key (map (λ (r : IdRecord). r.key) records) in
        cond_both (nat_lt found step.threshold)
        (Err (here (Threshold step.name found step.threshold)))
        (agreement lower setting answers layout bundle step found records)
        (Tells At (at_threshold step ∷ at_records step ∷ [])
        (StepHolds sub setting layout bundle step))
        (λ few. inl (
          found,
          record {
            is_found = is_found;
            below = ltb-true found step.threshold few;
          },
          refl,
        ))
        (λ enough. tells_behind At (at_threshold step ∷ []) (at_records step ∷ [])
        (StepHolds sub setting layout bundle step)
        (agreement lower setting answers layout bundle step found records)
        (not_few found is_found (ltb-false found step.threshold enough), tt)
        (tells_agreement records refl (ltb-false found step.threshold enough)))
