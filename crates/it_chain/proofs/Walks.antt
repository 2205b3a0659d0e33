-- What the functions that verify a level come to, put together.
use Rattle.std.proofs.Common.{◌≡◌, ◌≢◌, ◌<◌, ◌+◌, ◌↔◌, ℕ, zero, suc, List, [], ◌∷◌, ◌++◌, flat_map}
use Rattle.std.proofs.Common.{take, get_or, length, Option, Some, None, Result, Ok, Err, IfOk}
use Rattle.std.proofs.Common.{IfErr, Bor, option_map, unwrap_or, Bool, IsTrue, true, false, inl}
use Rattle.std.proofs.Common.{inr, Contains, refl, sym, ap, subst, ◌∙◌, arith}
use Rattle.std.specs.FinMap.{get}
use Rattle.std.specs.Bool.{◌==◌}
use Rattle.std.proofs.lemmas.Bool.Decides.{Decides-eqb}
use Rattle.std.proofs.lemmas.Option.{same_Some}
use Rattle.it_base.specs.Places.{IsFirst, NoneAt}
use Rattle.it_base.proofs.Firsts.{first_before, first_behind, none_append}
use Rattle.it_dsse.specs.Panel.{KeyNumber}
use Rattle.it_dsse.specs.Signed.{Signed}
use Rattle.it_dsse.specs.declared.envelope.Envelope.{Envelope}
use Rattle.it_dsse.specs.declared.key_object.KeyObject.{KeyObject}
use Rattle.it_docs.specs.declared.layout.Layout.{Layout}
use Rattle.it_docs.specs.declared.step.Step.{Step}
use Rattle.it_chain.specs.Answer.{with_record}
use Rattle.it_chain.specs.Chain.{Chain, holds_below}
use Rattle.it_rules.specs.Item.{Recorded}
use Rattle.it_chain.specs.Contents.{Contents, empty, files_of}
use Rattle.it_chain.specs.CountedBodies.{Setting, Body, of_link, of_layout, BodyOf, Counted}
use Rattle.it_chain.specs.First.{Failing, FirstChainFailure, HasTwo, SublayoutFails, at_id, here}
use Rattle.it_chain.specs.First.{places}
use Rattle.it_chain.specs.Level.{Holding, LevelHolds, Records}
use Rattle.it_chain.specs.ClaimedFiles.{IsClaimed}
use Rattle.it_chain.specs.Sublayouts.{folder_of}
use Rattle.it_chain.specs.Body.{as_body}
use Rattle.it_chain.specs.inside.Candidates.{AreCandidates}
use Rattle.it_chain.specs.inside.Sublayouts.{BodyComes, BodyFails, IsUnder, SublayoutComes}
use Rattle.it_chain.specs.inside.CountedBodies.{CountTwo, CountsOne, IsSigned}
use Rattle.it_chain.specs.inside.Walks.{FailsAt, Walks}
use Rattle.it_chain.specs.inside.IdRecords.{Gives, IsRecordOf}
use Rattle.it_chain.specs.inside.Below.{StandsAt, fails_below}
use Rattle.it_chain.specs.declared.bundle.File.{File}
use Rattle.it_chain.specs.declared.body.Body.{Body as Held}
use Rattle.it_chain.specs.declared.body.Body.TheVariants.{Link as held_link}
use Rattle.it_chain.specs.declared.body.Body.TheVariants.{Layout as held_layout}
use Rattle.it_chain.specs.declared.chain.Chain.{Chain as ChainOf}
use Rattle.it_chain.specs.declared.counted_bodies.FoundBody.{FoundBody}
use Rattle.it_chain.specs.declared.chain.StepResult.{StepResult}
use Rattle.it_chain.specs.declared.record.IdRecord.{IdRecord}
use Rattle.it_chain.specs.declared.refusal.ChainError.{ChainError}
use Rattle.it_chain.specs.declared.refusal.ChainError.TheVariants.{Refused, OutOfMemory}
use Rattle.it_chain.specs.declared.refusal.ChainFault.TheVariants.{InspectionInSublayout, TooDeep}
use Rattle.it_chain.specs.declared.refusal.ChainFault.TheVariants.{TwoPayloads}
use Rattle.it_chain.specs.declared.refusal.ChainRefusal.{ChainRefusal}
use Rattle.it_chain.proofs.ClaimedFiles.{in_those, of_those}
use Rattle.it_chain.proofs.Excludes.{chain_excludes, chain_one, none_one, uninspected_apart}
use Rattle.it_chain.proofs.Ids.{OneBody, none_of_given}
use Rattle.it_chain.proofs.Levels.{HoldsOneWay, HoldsOrFails}
use Rattle.it_chain.proofs.Records.{AreOf}

-- ---- places that follow each other
module _ {P : Type 0} (At : P → ChainRefusal → Type 0) where
  pub fails_before : (ps qs : List P) (e : ChainError) → FailsAt At ps e → FailsAt At (ps ++ qs) e
  fails_before ps qs (Refused r) h = first_before At ps qs r h
  fails_before ps qs OutOfMemory h = tt

  pub fails_behind : (ps qs : List P) (e : ChainError) → NoneAt At ps → FailsAt At qs e
      → FailsAt At (ps ++ qs) e
  fails_behind ps qs (Refused r) none h = first_behind At ps qs r none h
  fails_behind ps qs OutOfMemory none h = tt

  pub walks_behind : {A : Type 0} (ps qs : List P) (G : A → Type 0) (a : Result A ChainError)
      → NoneAt At ps → Walks At qs G a → Walks At (ps ++ qs) G a
  walks_behind ps qs G (Ok x) none h = (none_append At ps qs none h.0, h.1)
  walks_behind ps qs G (Err e) none h = fails_behind ps qs e none h

  none_parts : (ps qs : List P) → NoneAt At (ps ++ qs) → NoneAt At ps × NoneAt At qs
  none_parts [] qs h = (tt, h)
  none_parts (p ∷ ps) qs h = let rest = none_parts ps qs h.1 in ((h.0, rest.0), rest.1)

  module _ {X : Type 0} (f : X → List P) where
    -- the places of the first elements and of the next
    none_next : (xs : List X) (i : ℕ) (d : X) → i < length xs → NoneAt At (flat_map f (take i xs))
        → NoneAt At (f (get_or xs i d)) → NoneAt At (flat_map f (take (suc i) xs))
    none_next [] i d below before next = absurd (omega (arith, below))
    none_next (x ∷ xs) zero d below before next = none_append At (f x) [] next tt
    none_next (x ∷ xs) (suc i) d below before next =
        let parts = none_parts (f x) (flat_map f (take i xs)) before in
        none_append At (f x) (flat_map f (take (suc i) xs)) parts.0
        (none_next xs i d (omega (arith, below)) parts.1 next)

    fails_next : (xs : List X) (i : ℕ) (d : X) (e : ChainError) → i < length xs
        → NoneAt At (flat_map f (take i xs)) → FailsAt At (f (get_or xs i d)) e
        → FailsAt At (flat_map f xs) e
    fails_next [] i d e below before next = absurd (omega (arith, below))
    fails_next (x ∷ xs) zero d e below before next = fails_before (f x) (flat_map f xs) e next
    fails_next (x ∷ xs) (suc i) d e below before next =
        let parts = none_parts (f x) (flat_map f (take i xs)) before in
        fails_behind (f x) (flat_map f xs) e parts.0
        (fails_next xs i d e (omega (arith, below)) parts.1 next)

    pub none_more : (xs : List X) (i : ℕ) (x : X) → i < length xs → x ≡ get_or xs i x
        → NoneAt At (flat_map f (take i xs)) → NoneAt At (f x)
        → NoneAt At (flat_map f (take (i + 1) xs))
    none_more xs i x below is before next =
        let more : suc i ≡ i + 1 = omega arith in
        subst (λ n. NoneAt At (flat_map f (take n xs))) more
        (none_next xs i x below before (subst (λ y. NoneAt At (f y)) is next))

    pub fails_at : (xs : List X) (i : ℕ) (x : X) (e : ChainError) → i < length xs
        → x ≡ get_or xs i x → NoneAt At (flat_map f (take i xs)) → FailsAt At (f x) e
        → FailsAt At (flat_map f xs) e
    fails_at xs i x e below is before next =
        fails_next xs i x e below before (subst (λ y. FailsAt At (f y) e) is next)

-- ---- the level below
module _ (setting : Setting) where
  pub one_below : (depth : ℕ) → HoldsOneWay (holds_below setting depth)
  one_below zero = none_one
  one_below (suc depth) = chain_one setting depth

  pub apart_below : (depth : ℕ) → HoldsOrFails (holds_below setting depth)
      (fails_below setting depth)
  apart_below zero = λ layout bundle m refusal bare h k. h
  apart_below (suc depth) = uninspected_apart (Chain setting depth)
      (FirstChainFailure setting depth) (chain_excludes setting depth)

  pub chain_of : (depth : ℕ) (layout : Layout) (bundle : Contents) (m : List StepResult)
      → LevelHolds (holds_below setting depth) setting layout bundle m
      → Chain setting depth layout bundle m
  chain_of zero layout bundle m h = h
  chain_of (suc depth) layout bundle m h = h

  pub first_of : (depth : ℕ) (layout : Layout) (bundle : Contents) (refusal : ChainRefusal)
      → IsFirst (StandsAt setting depth layout bundle) (places layout) refusal
      → FirstChainFailure setting depth layout bundle refusal
  first_of zero layout bundle refusal h = h
  first_of (suc depth) layout bundle refusal h = h

  module _ (layout : Layout) (bundle : Contents) where
    pub too_deep_here : (depth : ℕ) (e : ChainError) → depth ≡ 0 → e ≡ Refused (here TooDeep)
        → SublayoutComes (holds_below setting depth) (fails_below setting depth) layout bundle
        (Err e)
    too_deep_here zero e none is =
        subst (λ x. SublayoutComes (holds_below setting 0) (fails_below setting 0) layout bundle
        (Err x)) (sym is) refl
    too_deep_here (suc depth) e none is = absurd (omega (arith, none))

    pub inspected_here : (depth d : ℕ) (e : ChainError) → depth ≡ suc d → layout.inspections ≢ []
        → e ≡ Refused (here InspectionInSublayout)
        → SublayoutComes (holds_below setting depth) (fails_below setting depth) layout bundle
        (Err e)
    inspected_here zero d e some inspected is = absurd (omega (arith, some))
    inspected_here (suc depth) d e some inspected is =
        subst (λ x. SublayoutComes (holds_below setting (suc depth))
        (fails_below setting (suc depth)) layout bundle (Err x)) (sym is) (inl (inspected, refl))

    level_comes : (depth : ℕ) → layout.inspections ≡ [] → (a : Result ChainOf ChainError)
        → Walks (StandsAt setting depth layout bundle) (places layout)
        (λ chain. LevelHolds (holds_below setting depth) setting layout bundle chain.steps) a
        → SublayoutComes (holds_below setting (suc depth)) (fails_below setting (suc depth)) layout
        bundle a
    level_comes depth bare (Ok chain) h = (bare, chain_of depth layout bundle chain.steps h.1)
    level_comes depth bare (Err (Refused r)) h = inr (bare, first_of depth layout bundle r h)
    level_comes depth bare (Err OutOfMemory) h = tt

    pub level_below : (depth d : ℕ) → depth ≡ suc d → layout.inspections ≡ []
        → (a : Result ChainOf ChainError)
        → Walks (StandsAt setting d layout bundle) (places layout)
        (λ chain. LevelHolds (holds_below setting d) setting layout bundle chain.steps) a
        → SublayoutComes (holds_below setting depth) (fails_below setting depth) layout bundle a
    level_below depth d is bare a h =
        subst (λ n. SublayoutComes (holds_below setting n) (fails_below setting n) layout bundle a)
        (sym is) (level_comes d bare a h)

-- ---- the outermost level
module _ (setting : Setting) (depth : ℕ) (layout : Layout) (bundle : Contents) where
  abbrev Level : Result ChainOf ChainError → Type 0
  Level = Walks (StandsAt setting depth layout bundle) (places layout)
      (λ chain. LevelHolds (holds_below setting depth) setting layout bundle chain.steps)

  pub ok_of : (a : Result ChainOf ChainError) → Level a
      → IfOk a (λ chain. Chain setting depth layout bundle chain.steps)
  ok_of (Ok chain) h = chain_of setting depth layout bundle chain.steps h.1
  ok_of (Err e) h = tt

  refusal_first : (e : ChainError) → FailsAt (StandsAt setting depth layout bundle)
      (places layout) e → (r : ChainRefusal) → e ≡ Refused r
      → FirstChainFailure setting depth layout bundle r
  refusal_first e h r is = first_of setting depth layout bundle r
      (subst (FailsAt (StandsAt setting depth layout bundle) (places layout)) is h)

  pub bad_of : (a : Result ChainOf ChainError) → Level a
      → IfErr a (λ e. (r : ChainRefusal) → e ≡ Refused r
      → FirstChainFailure setting depth layout bundle r)
  bad_of (Ok chain) h = tt
  bad_of (Err e) h = refusal_first e h

-- ---- the records of ids
module _ (sub : Holding) (setting : Setting) (layout : Layout) (bundle : Contents)
    (step : Step) where
  record_before : (given : Option IdRecord) (rest more : List IdRecord) → with_record given rest
      ++ more ≡ with_record given (rest ++ more)
  record_before None rest more = refl
  record_before (Some r) rest more = refl

  pub are_more : (es : List (List ℕ × KeyObject)) (records : List IdRecord) (e : List ℕ × KeyObject)
      (given : Option IdRecord) → AreOf sub setting layout bundle step es records
      → Gives sub setting layout bundle step e.0 given
      → AreOf sub setting layout bundle step (es ++ e ∷ []) (records ++ with_record given [])
  are_more [] records e given h gives = (
    given,
    [],
    ap (λ rs. rs ++ with_record given []) h,
    gives,
    refl,
  )
  are_more (f ∷ es) records e given h gives = (
    h.0,
    h.1 ++ with_record given [],
    ap (λ rs. rs ++ with_record given []) h.2
        ∙ record_before h.0 h.1 (with_record given []),
    h.3,
    are_more es h.1 e given h.4 gives,
  )

-- ---- what counts for an id, from the candidates
as_held : Body → Held
as_held (of_link link) = held_link link
as_held (of_layout layout) = held_layout layout

held_back : (body : Body) → body ≡ as_body (as_held body)
unfolding as_held
held_back (of_link link) = refl
held_back (of_layout layout) = refl

module _ (sub : Holding) (fails : Failing) (setting : Setting) (layout : Layout) (bundle : Contents)
    (step : Step) (id : List ℕ) (object : KeyObject) (candidates : List Envelope)
    (are : AreCandidates step.name (files_of bundle) candidates) (listed : Contains step.pubkeys id)
    (known : get layout.keys id ≡ Some object) where
  counted_of : (envelope : Envelope) (key : KeyNumber) (body : Held)
      → IsSigned setting.panel step.name id object candidates envelope key body
      → Counted setting layout bundle step id envelope.payload
  counted_of envelope key body h =
      let file = are.2.each envelope h.stands in
      let from = of_those (λ (f : File). IsClaimed step.name f.name) (files_of bundle) are.0 are.1
      file.0 file.1 in
      record {
        file = file.0;
        envelope = envelope;
        object = object;
        key = key;
        body = as_body body;
        stands = from.0;
        claimed = from.1;
        is_envelope = file.2.is_envelope;
        type_is = file.2.type_is;
        payload_is = refl;
        listed = listed;
        known = known;
        signed = h.signed.0;
        reads = h.signed.1;
      }

  candidate_of : (payload : List ℕ) (c : Counted setting layout bundle step id payload)
      → IsSigned setting.panel step.name id object candidates c.envelope c.key (as_held c.body)
  candidate_of payload c =
      let same : c.object ≡ object = same_Some c.object object (sym c.known ∙ known) in
      let reads : BodyOf step.name c.envelope.payload (as_body (as_held c.body)) =
      subst (BodyOf step.name c.envelope.payload) (held_back c.body)
      (subst (λ p. BodyOf step.name p c.body) (sym c.payload_is) c.reads) in
      record {
        stands = are.2.all c.file c.envelope
            (in_those (λ (f : File). IsClaimed step.name f.name) (files_of bundle) are.0 are.1
            c.file c.stands c.claimed)
            (record { is_envelope = c.is_envelope; type_is = c.type_is });
        signed = (
          subst (λ o. Signed setting.panel c.envelope id o c.key) same c.signed,
          reads,
        );
      }

  pub none_counts : ((envelope : Envelope) (key : KeyNumber) (body : Held)
      → ¬ IsSigned setting.panel step.name id object candidates envelope key body)
      → (payload : List ℕ) → ¬ Counted setting layout bundle step id payload
  none_counts none payload c = none c.envelope c.key (as_held c.body) (candidate_of payload c)

  pub two_count : CountTwo setting.panel step.name id object candidates
      → HasTwo sub fails setting layout bundle step id
  two_count two = record {
    payload = two.one.payload;
    other = two.other.payload;
    first = counted_of two.one two.one_key two.one_body two.one_is;
    second = counted_of two.other two.other_key two.other_body two.other_is;
    differ = two.differ;
  }

  pub one_counts : (found : FoundBody)
      → CountsOne setting.panel step.name id object candidates found
      → OneBody sub setting layout bundle step id found.key (as_body found.body)
  unfolding counted_of
  one_counts found one = record {
    payload = found.envelope.now.payload;
    counted = counted_of found.envelope.now found.key found.body one.is;
    key_is = refl;
    reads = one.is.signed.1;
    alone = λ other c. one.alone c.envelope c.key (as_held c.body) (candidate_of other c)
        ∙ c.payload_is;
  }

module _ (setting : Setting) (depth : ℕ) (layout : Layout) (bundle : Contents) (step : Step)
    (id : List ℕ) where
  abbrev Sub : Holding
  Sub = holds_below setting depth

  abbrev Fails : Failing
  Fails = fails_below setting depth

  abbrev GivesOf : Option IdRecord → Type 0
  GivesOf = Gives Sub setting layout bundle step id

  abbrev WalksId : Result (Option IdRecord) ChainError → Type 0
  WalksId = Walks (StandsAt setting depth layout bundle) (at_id step id ∷ []) GivesOf

  -- nothing stands where an id gives a record or none
  pub walks_given : (given : Option IdRecord) → GivesOf given → WalksId (Ok given)
  walks_given given h = (
    (
      none_of_given Sub setting layout bundle step Fails
          (one_below setting depth) (apart_below setting depth) id given h,
      tt,
    ),
    h,
  )

  pub walks_two : (e : ChainError) → HasTwo Sub Fails setting layout bundle step id
      → e ≡ Refused (here (TwoPayloads step.name id)) → WalksId (Err e)
  walks_two e two is = subst (λ x. WalksId (Err x)) (sym is) (inl (inl (two, refl)))

  walks_one : (key : KeyNumber) (body : Body) (recorded : Recorded)
      → OneBody Sub setting layout bundle step id key body
      → Records Sub bundle step.name id body recorded
      → WalksId (Ok (Some (record { id = id; key = key; recorded = recorded })))
  walks_one key body recorded one records =
      walks_given (Some (record { id = id; key = key; recorded = recorded })) (record {
        id_is = refl;
        recorded = record {
          payload = one.payload;
          body = body;
          counted = one.counted;
          reads = one.reads;
          records = records;
        };
        key_is = one.key_is;
        alone = one.alone;
      })

  sublayout_fails : (key : KeyNumber) (body : Body) (r : ChainRefusal)
      → OneBody Sub setting layout bundle step id key body
      → BodyFails Fails bundle step.name id body r → SublayoutFails Sub Fails setting layout bundle
      step id r
  sublayout_fails key (of_link link) r one h = absurd h
  sublayout_fails key (of_layout sublayout) r one h = record {
    payload = one.payload;
    sublayout = sublayout;
    inner = h.0;
    counted = one.counted;
    one_body = one.alone;
    is_layout = one.reads;
    fails_there = h.1;
    refusal_is = h.2;
  }

  walks_body : (key : KeyNumber) (body : Body) (e : ChainError)
      → OneBody Sub setting layout bundle step id key body
      → BodyComes Sub Fails bundle step.name id body (Err e) → WalksId (Err e)
  walks_body key body (Refused r) one h = inl (inr (sublayout_fails key body r one h))
  walks_body key body OutOfMemory one h = tt

  -- the record of the id's one body, or the body's error
  pub walks_record : (key : KeyNumber) (body : Body)
      → OneBody Sub setting layout bundle step id key body → (recorded : Result Recorded ChainError)
      (given : Result (Option IdRecord) ChainError)
      → BodyComes Sub Fails bundle step.name id body recorded → IsRecordOf id key recorded given
      → WalksId given
  walks_record key body one (Ok recorded) (Ok given) h is = subst (λ x. WalksId (Ok x)) (sym is)
      (walks_one key body recorded one h)
  walks_record key body one (Ok recorded) (Err e) h is = subst (λ x. WalksId (Err x)) (sym is) tt
  walks_record key body one (Err e) (Ok given) h is = absurd is
  walks_record key body one (Err e) (Err f) h is = subst (λ x. WalksId (Err x)) (sym is)
      (walks_body key body e one h)

-- what a sublayout's error is for the layout around it
module _ (sub : Holding) (fails : Failing) (bundle : Contents) (step id : List ℕ)
    (sublayout : Layout) where
  pub body_under : (inner outer : ChainError) → SublayoutComes sub fails sublayout
      (folder_of step id bundle) (Err inner) → IsUnder step id inner outer
      → BodyComes sub fails bundle step id (of_layout sublayout) (Err outer)
  body_under (Refused r) (Refused q) h is = (r, h, is)
  body_under (Refused r) OutOfMemory h is = tt
  body_under OutOfMemory (Refused q) h is = absurd is
  body_under OutOfMemory OutOfMemory h is = tt

-- the folder that is looked up, or the empty one
pub folder_or : (found : Option (Bor Contents)) (none : Bor Contents) (folder : Option Contents)
    → option_map (λ (x : Bor Contents). x.now) found ≡ folder → none.now ≡ empty
    → (unwrap_or found none).now ≡ unwrap_or folder empty
folder_or None none folder e is = is ∙ ap (λ o. unwrap_or o empty) e
folder_or (Some x) none folder e is = ap (λ o. unwrap_or o empty) e

-- what a test that fails tells
pub not_when : (test : Bool) (P : Type 0) → (IsTrue test ↔ P) → test ≡ false → ¬ P
not_when test P h is p = let yes : test ≡ true = h.1 p in cc

pub nil_of : {X : Type 0} (xs : List X) → (length xs == 0) ≡ true → xs ≡ []
nil_of [] h = refl
nil_of (x ∷ xs) h = let none : length (x ∷ xs) ≡ 0 = (Decides-eqb (length (x ∷ xs)) 0).0 h in
    absurd (omega (arith, none))
