-- How far the functions that verify a level raise the meter, put together.
use Rattle.std.proofs.Common.{◌≡◌, ℕ, zero, suc, ◌+◌, ◌<◌, ◌≤◌, List, [], ◌∷◌, ◌++◌, map, length}
use Rattle.std.proofs.Common.{get_or, take, Option, None, Some, Result, Ok, Err, IfOk, sym, ap}
use Rattle.std.proofs.Common.{subst, arith, append-nil}
use Rattle.std.proofs.lemmas.List.Sums.{sum_by_push}
use Rattle.std.proofs.lemmas.List.{length-map, length_push}
use Rattle.std.proofs.lemmas.Map.Made.{distinct_count-le}
use Rattle.it_base.specs.Sum.{IsSum}
use Rattle.it_dsse.specs.Panel.{KeyNumber}
use Rattle.it_dsse.specs.Meter.{RaisedBy}
use Rattle.it_dsse.specs.declared.meter.Meter.{Meter}
use Rattle.it_docs.specs.declared.layout.Layout.{Layout}
use Rattle.it_docs.specs.declared.step.Step.{Step}
use Rattle.it_rules.specs.Item.{Recorded}
use Rattle.it_chain.specs.Answer.{signers, with_record}
use Rattle.it_chain.specs.Cost.{cost_below}
use Rattle.it_chain.specs.Raised.{RaisedWithin}
use Rattle.it_chain.specs.inside.Asked.{Asks, BodyCosts, IdCosts, SignaturesIn}
use Rattle.it_chain.specs.inside.Asked.{key_total, least_given, signature_count}
use Rattle.it_chain.specs.Contents.{Contents, files_of}
use Rattle.it_chain.specs.Cost.{ChainCosts, LevelCosts, StepCosts}
use Rattle.it_chain.specs.CountedBodies.{Setting, Body, of_link, of_layout}
use Rattle.it_chain.specs.Threshold.{same_key}
use Rattle.it_chain.specs.Judged.{settled_by}
use Rattle.it_chain.specs.Level.{Holding}
use Rattle.it_chain.specs.Signers.{entry_of}
use Rattle.it_chain.specs.inside.Candidates.{AreCandidates}
use Rattle.it_chain.specs.inside.Threshold.{IsJudged, keys_of}
use Rattle.it_chain.specs.inside.IdRecords.{IsRecordOf}
use Rattle.it_dsse.specs.declared.envelope.Envelope.{Envelope}
use Rattle.it_chain.specs.declared.chain.StepResult.{StepResult}
use Rattle.it_chain.specs.declared.chain.Chain.{Chain as ChainOf}
use Rattle.it_chain.specs.declared.record.IdRecord.{IdRecord}
use Rattle.it_chain.specs.declared.refusal.ChainError.{ChainError}
use Rattle.it_chain.specs.declared.refusal.ChainRefusal.{ChainRefusal}
use Rattle.it_chain.specs.declared.signers.Signer.{Signer}
use Rattle.it_chain.proofs.Asking.{sum_of, within_least, within_more, within_part, within_then}
use Rattle.it_chain.proofs.Asking.{within_weaker}
use Rattle.it_chain.proofs.Costing.{ids_cost}
use Rattle.it_chain.proofs.Ids.{OneBody}

-- ---- one level and the level below
costs_of : (setting : Setting) (depth : ℕ) (layout : Layout) (bundle : Contents) (n : ℕ)
    → ChainCosts setting depth layout bundle n
    → LevelCosts (cost_below setting depth) setting layout bundle n
costs_of setting zero layout bundle n h = h
costs_of setting (suc depth) layout bundle n h = h

pub chain_asks : (setting : Setting) (depth : ℕ) (layout : Layout) (bundle : Contents) (least : ℕ)
    (old new : Meter) → RaisedWithin least
    (LevelCosts (cost_below setting depth) setting layout bundle) old new
    → RaisedWithin least (ChainCosts setting depth layout bundle) old new
chain_asks setting depth layout bundle least old new =
    within_weaker least least (LevelCosts (cost_below setting depth) setting layout bundle)
    (ChainCosts setting depth layout bundle) old new (omega arith)
    (λ n h. (n, costs_of setting depth layout bundle n h, omega arith))

module _ (setting : Setting) (layout : Layout) (bundle : Contents) (old new : Meter) where
  below_raises : (depth least : ℕ)
      → RaisedWithin least (LevelCosts (cost_below setting depth) setting layout bundle) old new
      → RaisedWithin 0 (cost_below setting (suc depth) layout bundle) old new
  below_raises depth least = λ h. within_weaker 0 least (ChainCosts setting depth layout bundle)
      (ChainCosts setting depth layout bundle) old new (omega arith) (λ n c. (n, c, omega arith))
      (chain_asks setting depth layout bundle least old new h)

  below_comes : (depth : ℕ) (a : Result ChainOf ChainError)
      → Asks (λ (chain : ChainOf). key_total chain.steps)
      (LevelCosts (cost_below setting depth) setting layout bundle) old new a
      → Asks (λ (chain : ChainOf). 0) (cost_below setting (suc depth) layout bundle) old new a
  below_comes depth (Ok chain) h = below_raises depth (key_total chain.steps) h
  below_comes depth (Err e) h = below_raises depth 0 h

  -- a sublayout asks as its own level does
  pub below_asks : (depth d : ℕ) → depth ≡ suc d → (a : Result ChainOf ChainError)
      → Asks (λ (chain : ChainOf). key_total chain.steps)
      (LevelCosts (cost_below setting d) setting layout bundle) old new a
      → Asks (λ (chain : ChainOf). 0) (cost_below setting depth layout bundle) old new a
  below_asks depth d is a h =
      subst (λ n. Asks (λ (chain : ChainOf). 0) (cost_below setting n layout bundle) old new a)
      (sym is) (below_comes d a h)

-- ---- the steps of a level, and the signers of a step
abbrev pub LevelSum : Setting → ℕ → Layout → Contents → List Step → ℕ → Type 0
LevelSum setting depth layout bundle =
    IsSum (StepCosts (cost_below setting depth) setting layout bundle)

abbrev pub IdSum : Setting → ℕ → Layout → Contents → Step → List Envelope → Signer → ℕ → Type 0
IdSum setting depth layout bundle step found signer =
    IdCosts (cost_below setting depth) setting layout bundle step (signature_count found)
    signer.id.now

abbrev pub SignersSum : Setting → ℕ → Layout → Contents → Step → List Envelope → List Signer → ℕ
    → Type 0
SignersSum setting depth layout bundle step found =
    IsSum (IdSum setting depth layout bundle step found)

module _ (setting : Setting) (depth : ℕ) (layout : Layout) (bundle : Contents) (old now new : Meter)
    (i : ℕ) where
  pub step_more : (steps : List Step) (step : Step) (results : List StepResult)
      (result : StepResult) → i < length steps → step ≡ get_or steps i step
      → RaisedWithin (key_total results) (LevelSum setting depth layout bundle (take i steps)) old
      now → RaisedWithin result.keys
      (StepCosts (cost_below setting depth) setting layout bundle step) now new
      → RaisedWithin (key_total (results ++ result ∷ []))
      (LevelSum setting depth layout bundle (take (i + 1) steps)) old new
  step_more steps step results result below here before next =
      let more = sum_by_push (λ (r : StepResult). r.keys) results result in
      within_more (StepCosts (cost_below setting depth) setting layout bundle) steps i step below
      here (key_total results) result.keys old now new before next
      (key_total (results ++ result ∷ [])) (omega (arith, more))

  pub step_fails : (steps : List Step) (step : Step) (least of_step : ℕ) → i < length steps
      → step ≡ get_or steps i step
      → RaisedWithin least (LevelSum setting depth layout bundle (take i steps)) old now
      → RaisedWithin of_step (StepCosts (cost_below setting depth) setting layout bundle step) now
      new → RaisedWithin 0 (LevelSum setting depth layout bundle steps) old new
  step_fails steps step least of_step below here before next =
      within_part (StepCosts (cost_below setting depth) setting layout bundle) steps i step below
      here least of_step old now new before next 0 (omega arith)

  module _ (step : Step) (found : List Envelope) (signers : List Signer) (signer : Signer)
      (records : List IdRecord) (below : i < length signers)
      (here : signer ≡ get_or signers i signer)
      (before : RaisedWithin (length records) (SignersSum setting depth layout bundle step found
      (take i signers)) old now) where
    pub signer_more : (given : Option IdRecord) → RaisedWithin (least_given given)
        (IdSum setting depth layout bundle step found signer) now new
        → RaisedWithin (length (records ++ with_record given []))
        (SignersSum setting depth layout bundle step found (take (i + 1) signers)) old new
    signer_more None next =
        within_more (IdSum setting depth layout bundle step found) signers i signer below here
        (length records) 0 old now new before next (length (records ++ []))
        (omega (arith, ap length (append-nil records)))
    signer_more (Some r) next =
        let more = length_push records r in
        within_more (IdSum setting depth layout bundle step found) signers i signer below here
        (length records) 1 old now new before next (length (records ++ r ∷ []))
        (omega (arith, more))

    pub signer_fails : (least : ℕ)
        → RaisedWithin least (IdSum setting depth layout bundle step found signer) now new
        → RaisedWithin 0 (SignersSum setting depth layout bundle step found signers) old new
    signer_fails least next = within_part (IdSum setting depth layout bundle step found) signers i
        signer below here (length records) least old now new before next 0 (omega arith)

-- ---- a step
module _ (setting : Setting) (depth : ℕ) (layout : Layout) (bundle : Contents) (step : Step)
    (found : List Envelope) (are : AreCandidates step.name (files_of bundle) found)
    (signers_are : List Signer)
    (same : map entry_of signers_are ≡ signers layout step) (old new : Meter) where
  -- its ids ask no more than it costs
  pub step_raises : (least : ℕ)
      → RaisedWithin least (SignersSum setting depth layout bundle step found signers_are) old new
      → RaisedWithin least (StepCosts (cost_below setting depth) setting layout bundle step) old new
  step_raises least =
      within_weaker least least (SignersSum setting depth layout bundle step found signers_are)
      (StepCosts (cost_below setting depth) setting layout bundle step) old new (omega arith)
      (λ n cost. ids_cost (cost_below setting depth) setting layout bundle step found are n cost
      signers_are same)

  -- each of its keys was asked for
  pub step_asks : (records : List IdRecord) (a : Result StepResult ChainError)
      → IsJudged step records a → RaisedWithin (length records)
      (SignersSum setting depth layout bundle step found signers_are) old new
      → Asks (λ (r : StepResult). r.keys)
      (StepCosts (cost_below setting depth) setting layout bundle step) old new a
  step_asks records (Ok result) judged h =
      let few = distinct_count-le same_key (map (λ (r : IdRecord). r.key) records) in
      let number = length-map records (λ (r : IdRecord). r.key) in
      let keys : result.keys ≡ keys_of records = ap (λ (r : StepResult). r.keys) judged.4.1 in
      within_weaker result.keys (length records)
      (StepCosts (cost_below setting depth) setting layout bundle step)
      (StepCosts (cost_below setting depth) setting layout bundle step) old new
      (omega (arith, few, number, keys)) (λ n c. (n, c, omega arith))
      (step_raises (length records) h)
  step_asks records (Err e) judged h =
      within_weaker 0 (length records)
      (StepCosts (cost_below setting depth) setting layout bundle step)
      (StepCosts (cost_below setting depth) setting layout bundle step) old new
      (omega arith) (λ n c. (n, c, omega arith)) (step_raises (length records) h)

-- ---- an id
module _ (setting : Setting) (depth : ℕ) (layout : Layout) (bundle : Contents) (step : Step)
    (found : List Envelope) (id : List ℕ) where
  abbrev pub OfId : ℕ → Type 0
  OfId = IdCosts (cost_below setting depth) setting layout bundle step (signature_count found) id

  -- its candidates alone
  pub candidates_raise : (least : ℕ) (old new : Meter)
      → RaisedWithin least (SignaturesIn found) old new → RaisedWithin least OfId old new
  candidates_raise least old new =
      within_weaker least least (SignaturesIn found) OfId old new (omega arith)
      (λ n cost. (
        signature_count found,
        sum_of (λ (e : Envelope). length e.signatures) found,
        omega (arith, cost.sum),
      ))

  body_cost : (sub : Holding) (key : KeyNumber) (body : Body)
      → OneBody sub setting layout bundle step id key body → (n : ℕ) → (cost : OfId n)
      → BodyCosts (cost_below setting depth) bundle step.name id body cost.sublayouts
  body_cost sub key (of_link link) one n cost = tt
  body_cost sub key (of_layout sublayout) one n cost =
      cost.within one.payload sublayout one.counted one.reads

  -- and its one body
  body_raises : (sub : Holding) (key : KeyNumber) (body : Body)
      → OneBody sub setting layout bundle step id key body → (old now new : Meter)
      → RaisedWithin 1 (SignaturesIn found) old now
      → RaisedWithin 0 (BodyCosts (cost_below setting depth) bundle step.name id body) now new
      → RaisedWithin 1 OfId old new
  body_raises sub key body one old now new =
      within_then 1 0 1 (SignaturesIn found)
      (BodyCosts (cost_below setting depth) bundle step.name id body) OfId old now new
      (omega arith)
      (λ n cost. (
        signature_count found,
        cost.sublayouts,
        sum_of (λ (e : Envelope). length e.signatures) found,
        body_cost sub key body one n cost,
        omega (arith, cost.sum),
      ))

  -- the record of that body asks no more, nor does its error
  pub record_asks : (sub : Holding) (key : KeyNumber) (body : Body)
      → OneBody sub setting layout bundle step id key body → (old now new : Meter)
      → RaisedWithin 1 (SignaturesIn found) old now
      → (recorded : Result Recorded ChainError) (given : Result (Option IdRecord) ChainError)
      → IsRecordOf id key recorded given
      → Asks (λ _. 0) (BodyCosts (cost_below setting depth) bundle step.name id body) now new
      recorded → Asks least_given OfId old new given
  record_asks sub key body one old now new first (Ok recorded) (Ok given) is next =
      subst (λ g. RaisedWithin (least_given g) OfId old new) (sym is)
      (body_raises sub key body one old now new first next)
  record_asks sub key body one old now new first (Ok recorded) (Err e) is next =
      within_least 0 1 OfId old new (omega arith)
      (body_raises sub key body one old now new first next)
  record_asks sub key body one old now new first (Err e) (Ok given) is next = absurd is
  record_asks sub key body one old now new first (Err e) (Err f) is next =
      within_least 0 1 OfId old new (omega arith)
      (body_raises sub key body one old now new first next)

-- ---- a layout over a bundle
module _ (setting : Setting) (depth : ℕ) (layout : Layout) (bundle : Contents)
    (old new : Meter) where
  abbrev AskedOf : Result ChainOf ChainError → Type 0
  AskedOf = Asks (λ (chain : ChainOf). key_total chain.steps)
      (LevelCosts (cost_below setting depth) setting layout bundle) old new

  -- no more is asked than it costs
  pub chain_at_most : (a : Result ChainOf ChainError) → AskedOf a → (n : ℕ)
      → ChainCosts setting depth layout bundle n → RaisedBy (λ m. m ≤ n) old new
  chain_at_most (Ok chain) h n cost = (
    h.0,
    h.1.1 n (costs_of setting depth layout bundle n cost),
    h.2,
  )
  chain_at_most (Err e) h n cost = (h.0, h.1.1 n (costs_of setting depth layout bundle n cost), h.2)

  -- and for each key of a step
  pub chain_at_least : (a : Result ChainOf ChainError) → AskedOf a
      → IfOk a (λ chain. RaisedBy (λ m. key_total chain.steps ≤ m) old new)
  chain_at_least (Ok chain) h = (h.0, h.1.0, h.2)
  chain_at_least (Err e) h = tt

  -- records over which a rule may fail
  pub settled_asks : (chain : ChainOf) (failed : Option ChainRefusal)
      → RaisedWithin (key_total chain.steps)
      (LevelCosts (cost_below setting depth) setting layout bundle) old new
      → AskedOf (settled_by chain failed)
  settled_asks chain None h = h
  settled_asks chain (Some r) h = within_least 0 (key_total chain.steps)
      (LevelCosts (cost_below setting depth) setting layout bundle) old new (omega arith) h
