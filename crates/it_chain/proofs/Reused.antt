-- What was answered for a sublayout holds again for each further key id whose body is the same, and
-- whose folder is.
use Rattle.std.proofs.Common.{◌≡◌, ℕ, List, ◌≤◌, Option, None, Some}
use Rattle.std.proofs.Common.{Result, Ok, Err, IfOk}
use Rattle.std.proofs.Common.{refl, sym, ap, subst, arith}
use Rattle.std.proofs.lemmas.Option.{same_Some}
use Rattle.it_dsse.specs.Meter.{RaisedBy, raised}
use Rattle.it_dsse.specs.declared.meter.Meter.{Meter}
use Rattle.it_docs.specs.Layout.{LayoutOf}
use Rattle.it_docs.specs.declared.layout.Layout.{Layout}
use Rattle.it_docs.proofs.Same.{layout_same}
use Rattle.it_rules.specs.Item.{Recorded}
use Rattle.it_chain.specs.Answered.{AreRight, AreWithin, IsAnswer, answer_at, unraised}
use Rattle.it_chain.specs.Contents.{Contents}
use Rattle.it_chain.specs.Raised.{RaisedAtLeast, RaisedWithin}
use Rattle.it_chain.specs.Sublayouts.{folder_of}
use Rattle.it_chain.specs.inside.Answered.{IsRecalled}
use Rattle.it_chain.specs.inside.Asked.{Asks}
use Rattle.it_chain.specs.inside.Below.{fails_below}
use Rattle.it_chain.specs.inside.Scope.{BodyAnswers, BodyCost, BodyTakes, Scope, SublayoutAnswers}
use Rattle.it_chain.specs.inside.Scope.{SublayoutCost, SublayoutTakes, below_holds, below_takes}
use Rattle.it_chain.specs.inside.Sublayouts.{IsSummarized}
use Rattle.it_chain.specs.declared.answered.Answer.{Answer}
use Rattle.it_chain.specs.declared.answered.AnsweredSublayouts.{AnsweredSublayouts}
use Rattle.it_chain.specs.declared.body.Body.TheVariants.{Layout as held_layout}
use Rattle.it_chain.specs.declared.chain.Chain.{Chain as ChainOf}
use Rattle.it_chain.specs.declared.refusal.ChainError.{ChainError}
use Rattle.it_chain.proofs.AnswersOver.{right_within}
use Rattle.it_chain.proofs.Asking.{within_weaker}
use Rattle.it_chain.proofs.Walks.{body_under}

abbrev metered : ℕ → Meter
metered n = record { asked = n }

-- a meter that is raised as far as one was from 0 is raised by as much
pub raised_alike : (P : ℕ → Type 0) (asked old : Meter) → RaisedBy P unraised asked
    → RaisedBy P old (raised old asked.asked)
raised_alike P asked old h =
    let is : asked.asked ≡ (raised unraised h.0).asked = ap (λ (m : Meter). m.asked) h.2 in
    let same : (raised old asked.asked).asked ≡ (raised old h.0).asked = omega (arith, is) in
    (h.0, h.1, ap metered same)

module _ (Most : ℕ → Type 0) (asked old new : Meter) (is : new ≡ raised old asked.asked) where
  pub within_alike : (least : ℕ) → RaisedWithin least Most unraised asked
      → RaisedWithin least Most old new
  within_alike least h = subst (RaisedWithin least Most old) (sym is)
      (raised_alike (λ k. (least ≤ k) × ((n : ℕ) → Most n → k ≤ n)) asked old h)

  pub least_alike : RaisedAtLeast Most unraised asked → RaisedAtLeast Most old new
  least_alike h = λ n takes. subst (RaisedBy (λ m. n ≤ m) old) (sym is)
      (raised_alike (λ m. n ≤ m) asked old (h n takes))

-- what holds where a sublayout comes to something holds where that is summarized
pub of_summarized : (P : Type 0) (step id : List ℕ) (chain : Result ChainOf ChainError)
    (recorded : Recorded) → IsSummarized step id chain (Ok recorded) → IfOk chain (λ c. P) → P
of_summarized P step id (Ok c) recorded summarized h = h
of_summarized P step id (Err e) recorded summarized h = absurd summarized

module _ (scope : Scope) (step id : List ℕ) (sublayout : Layout) where
  -- a body costs what its sublayout does
  body_within : (old new : Meter)
      → RaisedWithin 0 (SublayoutCost scope step id sublayout) old new
      → RaisedWithin 0 (BodyCost scope step id (held_layout sublayout)) old new
  body_within old new = within_weaker 0 0 (SublayoutCost scope step id sublayout)
      (BodyCost scope step id (held_layout sublayout)) old new (omega arith) (λ n cost. cost)

  -- ---- an answer that is recalled
  pub record IsTold (recorded : Recorded) (old new : Meter) : Type 0 where
    pub answer : BodyAnswers scope step id (held_layout sublayout) (Ok recorded)
    pub asked : RaisedWithin 0 (BodyCost scope step id (held_layout sublayout)) old new
    pub fewest : BodyTakes scope step id (held_layout sublayout) old new

  abbrev folder : Contents
  folder = folder_of step id scope.bundle

  told_again : (payload : List ℕ) → LayoutOf payload sublayout → (answer : Answer)
      → IsAnswer scope.setting scope.depth folder payload answer → (recorded : Recorded)
      (old new : Meter) → answer.recorded ≡ recorded → new ≡ raised old answer.asked.asked
      → IsTold recorded old new
  told_again payload reads answer h recorded old new same is =
      let alike : h.sublayout ≡ sublayout =
      layout_same payload h.sublayout sublayout h.reads reads in record {
        answer = subst (λ l. BodyAnswers scope step id (held_layout l) (Ok recorded)) alike
            (subst (λ r. BodyAnswers scope step id (held_layout h.sublayout) (Ok r)) same
            h.records);
        asked = body_within old new
            (subst (λ l. RaisedWithin 0 (SublayoutCost scope step id l) old new) alike
            (within_alike (SublayoutCost scope step id h.sublayout) answer.asked old new is 0
            h.asked));
        fewest = subst (λ l. SublayoutTakes scope step id l old new) alike
            (least_alike (below_takes scope h.sublayout folder) answer.asked old new is h.fewest);
      }

  recalled_from : (within : AnsweredSublayouts)
      → AreRight scope.setting scope.depth folder within → (payload : List ℕ)
      → LayoutOf payload sublayout → (found : Option Answer) → answer_at within payload ≡ found
      → (recorded : Recorded) (old new : Meter) → IsRecalled found old new (Some recorded)
      → IsTold recorded old new
  recalled_from within are payload reads None at recorded old new h = cc
  recalled_from within are payload reads (Some answer) at recorded old new h =
      told_again payload reads answer (are payload answer at) recorded old new
      (same_Some answer.recorded recorded (sym h.0)) h.1

  pub recalled : (within : AnsweredSublayouts)
      → AreWithin scope.setting scope.depth folder within → (payload : List ℕ)
      → LayoutOf payload sublayout → (recorded : Recorded) (old new : Meter)
      → IsRecalled (answer_at within payload) old new (Some recorded) → IsTold recorded old new
  recalled within are payload reads =
      recalled_from within (right_within scope.setting scope.depth folder within are) payload reads
      (answer_at within payload) refl

  -- ---- one that is new
  module _ (asked old new : Meter) (is : new ≡ raised old asked.asked) where
    pub anew_asks : (chain : Result ChainOf ChainError)
        → Asks (λ (c : ChainOf). 0) (SublayoutCost scope step id sublayout) unraised asked chain
        → RaisedWithin 0 (BodyCost scope step id (held_layout sublayout)) old new
    anew_asks (Ok c) h = body_within old new
        (within_alike (SublayoutCost scope step id sublayout) asked old new is 0 h)
    anew_asks (Err e) h = body_within old new
        (within_alike (SublayoutCost scope step id sublayout) asked old new is 0 h)

    module _ (payload : List ℕ) (reads : LayoutOf payload sublayout) where
      -- it is told, and may be told again
      pub record IsNew (recorded : Recorded) : Type 0 where
        pub told : IsTold recorded old new
        pub kept : IsAnswer scope.setting scope.depth folder payload
            (record { recorded = recorded; asked = asked })

      pub anew : (chain : Result ChainOf ChainError) (recorded : Recorded)
          → SublayoutAnswers scope step id sublayout chain
          → Asks (λ (c : ChainOf). 0) (SublayoutCost scope step id sublayout) unraised asked chain
          → IfOk chain (λ c. SublayoutTakes scope step id sublayout unraised asked)
          → IsSummarized step id chain (Ok recorded) → IsNew recorded
      anew (Ok c) recorded answers costs takes summarized =
          let records : BodyAnswers scope step id (held_layout sublayout) (Ok recorded) =
          (c.steps, answers.0, answers.1, summarized) in
          record {
            told = record {
              answer = records;
              asked = anew_asks (Ok c) costs;
              fewest = least_alike (below_takes scope sublayout folder) asked old new is takes;
            };
            kept = record {
              sublayout = sublayout;
              reads = reads;
              records = records;
              asked = costs;
              fewest = takes;
            };
          }
      anew (Err e) recorded answers costs takes summarized = absurd summarized

  pub anew_fails : (chain : Result ChainOf ChainError) (e : ChainError)
      → SublayoutAnswers scope step id sublayout chain → IsSummarized step id chain (Err e)
      → BodyAnswers scope step id (held_layout sublayout) (Err e)
  anew_fails (Ok c) e answers summarized = absurd summarized
  anew_fails (Err inner) e answers summarized =
      body_under (below_holds scope) (fails_below scope.setting scope.depth) scope.bundle step id
      sublayout inner e answers summarized

-- a meter is as before where nothing is recalled
pub none_recalled : (found : Option Answer) (old new : Meter) → IsRecalled found old new None
    → new ≡ old
none_recalled None old new h = h.1
none_recalled (Some answer) old new h = cc
