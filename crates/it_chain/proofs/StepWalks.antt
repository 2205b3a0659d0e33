-- What a step comes to, from the records of its ids.
use Rattle.std.proofs.Common.{◌≡◌, ℕ, List, [], ◌∷◌, Result, Ok, Err, inl, inr, ⊎_elim, Contains}
use Rattle.std.proofs.Common.{sym, ap, subst, ◌∙◌}
use Rattle.std.specs.List.{AllByRecursion}
use Rattle.it_docs.specs.declared.layout.Layout.{Layout}
use Rattle.it_docs.specs.declared.step.Step.{Step}
use Rattle.it_chain.specs.Contents.{Contents}
use Rattle.it_chain.specs.CountedBodies.{Setting}
use Rattle.it_chain.specs.First.{Failing, IsLeastOther, ChainPlace, StandsInChain, at_records}
use Rattle.it_chain.specs.First.{at_threshold}
use Rattle.it_chain.specs.Level.{Holding, HasRecord, StepHolds}
use Rattle.it_chain.specs.inside.IdRecords.{AreRecords, InOrder}
use Rattle.it_chain.specs.inside.Threshold.{IsEnough, IsJudged, keys_of}
use Rattle.it_chain.specs.inside.Agreement.{IsFirstOther}
use Rattle.it_chain.specs.inside.Walks.{Walks}
use Rattle.it_chain.specs.declared.chain.StepResult.{StepResult}
use Rattle.it_chain.specs.declared.record.IdRecord.{IdRecord}
use Rattle.it_chain.specs.declared.refusal.ChainError.{ChainError}
use Rattle.it_chain.specs.declared.refusal.ChainError.TheVariants.{Refused, OutOfMemory}
use Rattle.it_chain.specs.declared.refusal.ChainRefusal.{ChainRefusal}
use Rattle.it_chain.proofs.Judging.{AreLeft, agree_next, all_hold, is_found, least_other}
use Rattle.it_chain.proofs.Judging.{none_other, not_few, record_among}
use Rattle.it_chain.proofs.Levels.{HoldsOneWay}
use Rattle.it_chain.proofs.Members.{in_cases, in_head, in_tail}

module _ (sub : Holding) (fails : Failing) (one : HoldsOneWay sub) (setting : Setting)
    (layout : Layout) (bundle : Contents) (step : Step) (records : List IdRecord)
    (are : AreRecords sub setting layout bundle step records) where
  abbrev At : ChainPlace → ChainRefusal → Type 0
  At = StandsInChain sub fails setting layout bundle

  abbrev Left : IdRecord → List IdRecord → Type 0
  Left = AreLeft sub fails one setting layout bundle step records are

  all_same : (first : IdRecord) (left : List IdRecord)
      → AllByRecursion (λ r. r.recorded ≡ first.recorded) left → Left first left → Left first []
  all_same first [] same h = h
  all_same first (q ∷ left) same h =
      all_same first left same.1 (agree_next sub fails one setting layout bundle step records are
      first q left same.0 h)

  other_is_least : (first : IdRecord) (others : List IdRecord) → records ≡ first ∷ others
      → (id : List ℕ) (left : List IdRecord)
      → ((r : IdRecord) → Contains left r
      → HasRecord sub setting layout bundle step r.id r.recorded)
      → InOrder left → Left first left → IsFirstOther first left id
      → IsLeastOther sub fails setting layout bundle step id
  other_is_least first others split id [] each in_order h other = absurd other
  other_is_least first others split id (q ∷ left) each in_order h other =
      ⊎_elim (λ x. subst (IsLeastOther sub fails setting layout bundle step) (sym x.1)
      (least_other sub fails one setting layout bundle step records are first others split q left
      (each q (in_head q left)) in_order h x.0))
      (λ x. other_is_least first others split id left (λ r c. each r (in_tail q left r c))
      in_order.1 (agree_next sub fails one setting layout bundle step records are first q left
      x.0 h) x.1) other

  -- the others are left behind the first
  others_left : (first : IdRecord) (others : List IdRecord) → records ≡ first ∷ others
      → Left first others
  others_left first others split id recorded h =
      let r = record_among sub fails one setting layout bundle step records are id recorded h in
      ⊎_elim (λ head. inl (sym r.3 ∙ ap (λ (x : IdRecord). x.recorded) (sym head)))
      (λ later. inr (r.0, later, r.2, r.3))
      (in_cases first others r.0 (subst (λ rs. Contains rs r.0) split r.1))

  enough_walks : (a : Result StepResult ChainError) → IsEnough step records a
      → Walks At (at_threshold step ∷ at_records step ∷ [])
      (StepHolds sub setting layout bundle step) a
  enough_walks (Ok result) h =
      let found = is_found sub fails one setting layout bundle step records are in
      let left = all_same h.0 h.1 h.4.0 (others_left h.0 h.1 h.2) in (
        (
          not_few sub fails one setting layout bundle step records are (keys_of records) found h.3,
          (none_other sub fails one setting layout bundle step records are h.0 left, tt),
        ),
        subst (StepHolds sub setting layout bundle step) (sym h.4.1)
            (all_hold sub fails one setting layout bundle step records are (keys_of records) found
            h.3 h.0 left),
      )
  enough_walks (Err (Refused r)) h =
      let found = is_found sub fails one setting layout bundle step records are in
      inr (
        not_few sub fails one setting layout bundle step records are (keys_of records) found h.3,
        inl (
          h.4.0,
          other_is_least h.0 h.1 h.2 h.4.0 h.1
              (λ r c. (are.each r
              (subst (λ rs. Contains rs r) (sym h.2) (in_tail h.0 h.1 r c))).recorded)
              ((subst InOrder h.2 are.in_order).1) (others_left h.0 h.1 h.2) h.4.1,
          h.4.2,
        ),
      )
  enough_walks (Err OutOfMemory) h = tt

  -- the step holds, or too few keys signed, or a record differs
  pub judged_walks : (a : Result StepResult ChainError) → IsJudged step records a
      → Walks At (at_threshold step ∷ at_records step ∷ [])
      (StepHolds sub setting layout bundle step) a
  judged_walks (Ok result) h = enough_walks (Ok result) h
  judged_walks (Err (Refused r)) h =
      ⊎_elim (λ few. inl (
        keys_of records,
        record {
          is_found = is_found sub fails one setting layout bundle step records are;
          below = few.0;
        },
        few.1,
      )) (enough_walks (Err (Refused r))) h
  judged_walks (Err OutOfMemory) h = tt
