-- What an id that a step lists comes to, as the deciding functions answer.
use Rattle.std.proofs.Common.{◌≡◌, ℕ, List, [], ◌∷◌, Option, Some, None, Result, Ok, Err, inl, inr}
use Rattle.std.proofs.Common.{⊎_elim, bytes_eq, Contains, refl, sym, ap, subst, ◌∙◌}
use Rattle.std.specs.FinMap.{get}
use Rattle.std.specs.List.{list_all}
use Rattle.std.proofs.lemmas.Bool.{cond_both, true≢false}
use Rattle.std.proofs.lemmas.Option.{same_Some}
use Rattle.std.proofs.lemmas.Slice.Eq.{bytes_eq-Decides}
use Rattle.it_dsse.specs.Panel.{KeyNumber}
use Rattle.it_dsse.specs.declared.key_object.KeyObject.{KeyObject}
use Rattle.it_docs.specs.declared.layout.Layout.{Layout}
use Rattle.it_docs.specs.declared.step.Step.{Step}
use Rattle.it_rules.specs.Item.{Recorded}
use Rattle.it_chain.specs.Answer.{Answering, Bodies, no_body, one_body, several, bodies_answer}
use Rattle.it_chain.specs.Answer.{bodies_in, id_answer, key_answer, payloads_for, put_under, ◌>>=◌}
use Rattle.it_chain.specs.Contents.{Contents}
use Rattle.it_chain.specs.CountedBodies.{Setting, Body, of_link, of_layout, BodyOf, Counted}
use Rattle.it_chain.specs.First.{Failing, HasTwo, at_id, StandsInChain}
use Rattle.it_chain.specs.Level.{Holding, Records}
use Rattle.it_chain.specs.Summary.{summary}
use Rattle.it_chain.specs.Lower.{Lower, AnswersRight}
use Rattle.it_chain.specs.Sublayouts.{folder_of}
use Rattle.it_chain.specs.declared.record.IdRecord.{IdRecord}
use Rattle.it_chain.specs.inside.IdRecords.{Gives}
use Rattle.it_chain.specs.declared.chain.StepResult.{StepResult}
use Rattle.it_chain.specs.declared.refusal.ChainRefusal.{ChainRefusal}
use Rattle.it_chain.proofs.Counting.{listed, counts}
use Rattle.it_chain.proofs.Levels.{HoldsOneWay, HoldsOrFails, not_failing}
use Rattle.it_chain.proofs.Members.{in_head, in_tail, in_cases, in_none, all_pass, some_fails}
use Rattle.it_chain.proofs.Outcomes.{Tells}

-- what a sublayout comes to: it has no inspections and holds, or it fails
abbrev pub ComesTo : Holding → Failing → Layout → Contents → Result (List StepResult) ChainRefusal
    → Type 0
ComesTo sub fails layout bundle (Ok results) = (layout.inspections ≡ []) × sub layout bundle results
ComesTo sub fails layout bundle (Err refusal) = fails layout bundle refusal

-- the sublayouts of a level hold in one way, or fail, as is answered
pub record Sublayouts (answers : Answering) (sub : Holding) (fails : Failing) : Type 0 where
  pub come : (layout : Layout) (bundle : Contents) → ComesTo sub fails layout bundle
      (answers layout bundle)
  pub one : HoldsOneWay sub
  pub apart : HoldsOrFails sub fails

module _ (sub : Holding) (setting : Setting) (layout : Layout) (bundle : Contents)
    (step : Step) where
  -- a body counts for an id whose key has this number, and no other body does
  pub record OneBody (id : List ℕ) (key : KeyNumber) (body : Body) : Type 0 where
    pub payload : List ℕ
    pub counted : Counted setting layout bundle step id payload
    pub key_is : counted.key ≡ key
    pub reads : BodyOf step.name payload body
    pub alone : (other : List ℕ) → Counted setting layout bundle step id other → payload ≡ other

  -- nothing stands at the place of an id that does not count, or does so with one body
  pub none_of_given : (fails : Failing) → HoldsOneWay sub → HoldsOrFails sub fails
      → (id : List ℕ) (given : Option IdRecord) → Gives sub setting layout bundle step id given
      → (refusal : ChainRefusal) → ¬ StandsInChain sub fails setting layout bundle
      (at_id step id) refusal
  none_of_given fails one apart id None h refusal = ⊎_elim (λ x. h x.0.payload x.0.first)
      (λ k. h k.payload k.counted)
  none_of_given fails one apart id (Some r) h refusal =
      ⊎_elim (λ x. x.0.differ (sym (h.alone x.0.payload x.0.first) ∙ h.alone x.0.other x.0.second))
      (not_failing sub one setting bundle fails apart layout step id r.recorded h.recorded h.alone
      refusal)

module _ (answers : Answering) (sub : Holding) (fails : Failing)
    (inside : Sublayouts answers sub fails) (setting : Setting) (layout : Layout)
    (bundle : Contents) (step : Step) where
  -- what counts for an id: nothing, one body, or two
  abbrev pub HasBodies : List ℕ → KeyNumber → Bodies → Type 0
  HasBodies id key no_body = (payload : List ℕ) → ¬ Counted setting layout bundle step id payload
  HasBodies id key (one_body body) = OneBody sub setting layout bundle step id key body
  HasBodies id key several = HasTwo sub fails setting layout bundle step id

  -- the bodies of a list that has those which count
  pub bodies_of : (id : List ℕ) (key : KeyNumber) (found : List (List ℕ × Body))
      → ((payload : List ℕ) → Counted setting layout bundle step id payload → (body : Body)
      × Contains found (payload, body))
      → ((payload : List ℕ) (body : Body) → Contains found (payload, body)
      → (c : Counted setting layout bundle step id payload) × (c.key ≡ key)
      × BodyOf step.name payload body)
      → HasBodies id key (bodies_in found)
  bodies_of id key [] there counted = λ payload c. in_none _ ((there payload c).1)
  bodies_of id key (first ∷ others) there counted =
      let here = counted first.0 first.1 (in_head first others) in
      cond_both (list_all (λ other. bytes_eq other.0 first.0) others) (one_body first.1) several
      (HasBodies id key)
      (λ same. record {
        payload = first.0;
        counted = here.0;
        key_is = here.1;
        reads = here.2;
        alone = λ other c. let found = there other c in
            elim (in_cases first others (other, found.0) found.1) [
              | inl head ↦ ap (λ (p : List ℕ × Body). p.0) head
              | inr later ↦ sym
                  ((bytes_eq-Decides other first.0).0
                  (all_pass (λ (p : List ℕ × Body). bytes_eq p.0 first.0) others
                  (other, found.0) same
                  later))
            ];
      })
      (λ differ. let found = some_fails (λ (p : List ℕ × Body). bytes_eq p.0 first.0) others
      differ in
      let second = counted found.0.0 found.0.1 (in_tail first others found.0 found.2) in
      record {
        payload = first.0;
        other = found.0.0;
        first = here.0;
        second = second.0;
        differ = λ same. true≢false (sym ((bytes_eq-Decides found.0.0 first.0).1 (sym same))
            ∙ found.1);
      })

  -- the answer for an id is right of its place
  abbrev pub TellsId : List ℕ → Result (Option IdRecord) ChainRefusal → Type 0
  TellsId id = Tells (StandsInChain sub fails setting layout bundle) (at_id step id ∷ [])
      (Gives sub setting layout bundle step id)

  -- what an id gives is right of its place
  tells_given : (id : List ℕ) (o : Option IdRecord) → Gives sub setting layout bundle step id o
      → TellsId id (Ok o)
  tells_given id o h = (
    (
      none_of_given sub setting layout bundle step fails inside.one inside.apart
          id o h,
      tt,
    ),
    h,
  )

  tells_record : (id : List ℕ) (key : KeyNumber) (body : Body)
      → OneBody sub setting layout bundle step id key body → (recorded : Recorded)
      → Records sub bundle step.name id body recorded
      → TellsId id (Ok (Some (record { id = id; key = key; recorded = recorded })))
  tells_record id key body b recorded records =
      tells_given id (Some (record { id = id; key = key; recorded = recorded })) (record {
        id_is = refl;
        recorded = record {
          payload = b.payload;
          body = body;
          counted = b.counted;
          reads = b.reads;
          records = records;
        };
        key_is = b.key_is;
        alone = b.alone;
      })

  tells_sublayout : (id : List ℕ) (key : KeyNumber) (sublayout : Layout)
      (b : OneBody sub setting layout bundle step id key (of_layout sublayout))
      (o : Result (List StepResult) ChainRefusal)
      → ComesTo sub fails sublayout (folder_of step.name id bundle) o
      → TellsId id (put_under step.name id o >>= (λ results. Ok (summary results))
      >>= (λ recorded. Ok (Some (record { id = id; key = key; recorded = recorded }))))
  tells_sublayout id key sublayout b (Ok results) h = tells_record id key (of_layout sublayout) b
      (summary results) (results, h.0, h.1, refl)
  tells_sublayout id key sublayout b (Err inner) h = inl (inr (record {
    payload = b.payload;
    sublayout = sublayout;
    inner = inner;
    counted = b.counted;
    one_body = b.alone;
    is_layout = b.reads;
    fails_there = h;
    refusal_is = refl;
  }))

  -- what the bodies of an id come to
  pub tells_bodies : (id : List ℕ) (key : KeyNumber) (bodies : Bodies) → HasBodies id key bodies
      → TellsId id (bodies_answer answers bundle step id key bodies)
  tells_bodies id key no_body h = tells_given id None h
  tells_bodies id key several h = inl (inl (h, refl))
  tells_bodies id key (one_body (of_link link)) h = tells_record id key (of_link link) h (record {
    materials = link.materials;
    products = link.products;
  }) refl
  tells_bodies id key (one_body (of_layout sublayout)) h =
      tells_sublayout id key sublayout h (answers sublayout (folder_of step.name id bundle))
      (inside.come sublayout (folder_of step.name id bundle))

module _ (lower : Lower) (right : AnswersRight lower) (setting : Setting) (layout : Layout)
    (bundle : Contents) (step : Step) (answers : Answering) (sub : Holding) (fails : Failing)
    (inside : Sublayouts answers sub fails) where
  tells_key : (id : List ℕ) (object : KeyObject) (number : Option KeyNumber)
      → setting.panel.key_of id object ≡ number → Contains step.pubkeys id
      → get layout.keys id ≡ Some object
      → TellsId answers sub fails inside setting layout bundle step id
      (key_answer lower setting answers layout bundle step id number)
  tells_key id object None e pubkey known =
      tells_given answers sub fails inside setting layout bundle step id None (λ payload c.
      let same : c.object ≡ object = same_Some c.object object (sym c.known ∙ known) in
      let no : Some c.key ≡ None = sym c.signed.key ∙ ap (setting.panel.key_of id) same ∙ e in
      cc)
  tells_key id object (Some key) e pubkey known =
      tells_bodies answers sub fails inside setting layout bundle step id key
      (bodies_in (payloads_for lower setting step bundle id key))
      (bodies_of answers sub fails inside setting layout bundle step id key
      (payloads_for lower setting step bundle id key)
      (λ payload c.
      let same : c.object ≡ object = same_Some c.object object (sym c.known ∙ known) in
      let key_is : c.key ≡ key =
      same_Some c.key key (sym c.signed.key ∙ ap (setting.panel.key_of id) same ∙ e) in (
        c.body,
        subst (λ n. Contains (payloads_for lower setting step bundle id n) (payload, c.body))
            key_is (listed lower right setting step layout bundle id payload c),
      ))
      (λ payload body. counts lower right setting step layout bundle id payload object key body
      pubkey known e))

  pub tells_id : (id : List ℕ) (object : KeyObject) → Contains step.pubkeys id
      → get layout.keys id ≡ Some object → TellsId answers sub fails inside setting layout bundle
      step id (id_answer lower setting answers layout bundle step (id, object))
  unfolding id_answer
  tells_id id object pubkey known = tells_key id object (setting.panel.key_of id object) refl pubkey
      known
