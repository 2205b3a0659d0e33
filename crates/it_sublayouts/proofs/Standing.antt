-- What the sublayouts of a layout come to where the layout holds.
use Rattle.std.proofs.Common.{◌≡◌, ◌<◌, ℕ, zero, suc, List, [], ◌∷◌, Contains, refl, subst, sym}
use Rattle.std.proofs.Common.{⊎_elim, arith}
use Rattle.std.specs.List.{AllZip}
use Rattle.it_dsse.specs.Signed.{IsSigner}
use Rattle.it_docs.specs.Layout.{LayoutOf}
use Rattle.it_docs.specs.declared.layout.Layout.{Layout}
use Rattle.it_docs.specs.declared.step.Step.{Step}
use Rattle.it_docs.proofs.Same.{layout_same}
use Rattle.it_rules.specs.Item.{Recorded}
use Rattle.it_chain.specs.Chain.{Chain, holds_below}
use Rattle.it_chain.specs.Contents.{Contents}
use Rattle.it_chain.specs.CountedBodies.{Body, BodyOf, Counted, Setting, of_layout, of_link}
use Rattle.it_chain.specs.Judged.{AreStepRecords}
use Rattle.it_chain.specs.Level.{Holding, Records, StepHolds}
use Rattle.it_chain.specs.StepRules.{recorded_in}
use Rattle.it_chain.specs.Sublayouts.{IsSublayout, folder_of}
use Rattle.it_chain.specs.declared.chain.StepResult.{StepResult}
use Rattle.it_chain.proofs.Documents.{link_or_layout}
use Rattle.it_chain.proofs.Members.{in_cases, in_none}
use Rattle.it_sublayouts.specs.Counted.{AreCountedAfter, InTurn, ListedForStep, Place}
use Rattle.it_sublayouts.specs.declared.counted.CountedSublayout.{CountedSublayout}
use Rattle.it_sublayouts.specs.inside.Below.{listed_below}

-- an element has one beside it
beside : {X Y : Type 0} (R : X → Y → Type 0) (xs : List X) (ys : List Y) → AllZip R xs ys → (x : X)
    → Contains xs x → (y : Y) × R x y
beside R [] ys h x c = absurd (in_none x c)
beside R (z ∷ zs) [] h x c = absurd h
beside R (z ∷ zs) (y ∷ ys) h x c =
    ⊎_elim (λ same. (y, subst (λ v. R v y) same h.0)) (λ later. beside R zs ys h.1 x later)
    (in_cases z zs x c)

-- a layout that holds has the records of its steps
step_records : (setting : Setting) (depth : ℕ) (layout : Layout) (bundle : Contents)
    (results : List StepResult) → Chain setting depth layout bundle results
    → AreStepRecords setting depth layout bundle results
step_records setting zero layout bundle results h = h.steps
step_records setting (suc depth) layout bundle results h = h.steps

-- a body that is a layout holds
of_body : (sub : Holding) (bundle : Contents) (step id payload : List ℕ) (sublayout : Layout)
    (body : Body) (recorded : Recorded) → LayoutOf payload sublayout → BodyOf step payload body
    → Records sub bundle step id body recorded
    → (results : List StepResult) × sub sublayout (folder_of step id bundle) results
of_body sub bundle step id payload sublayout (of_link link) recorded reads is records =
    absurd (link_or_layout payload link sublayout is.0 reads)
of_body sub bundle step id payload sublayout (of_layout layout) recorded reads is records = (
  records.0,
  subst (λ (l : Layout). sub l (folder_of step id bundle) records.0)
      (layout_same payload layout sublayout is reads) records.2,
)

module _ (setting : Setting) (layout : Layout) (bundle : Contents) (step : Step) (id : List ℕ)
    (sublayout : Layout)
    (is : IsSublayout (IsSigner setting.panel) layout bundle step id sublayout) where
  -- a sublayout is a body that counts
  counts_as : Counted setting layout bundle step id is.envelope.payload
  counts_as = record {
    file = is.file;
    envelope = is.envelope;
    object = is.object;
    key = is.signed.0;
    body = of_layout sublayout;
    stands = is.stands;
    claimed = is.claimed;
    is_envelope = is.is_envelope;
    type_is = is.type_is;
    payload_is = refl;
    listed = is.listed;
    known = is.known;
    signed = is.signed.1;
    reads = is.is_layout;
  }

  -- it holds over its folder
  pub sublayout_holds : (depth : ℕ) (results : List StepResult)
      → Chain setting depth layout bundle results
      → (inner : List StepResult)
      × holds_below setting depth sublayout (folder_of step.name id bundle) inner
  sublayout_holds depth results h =
      let beside_it = beside (StepHolds (holds_below setting depth) setting layout bundle)
      layout.steps results (step_records setting depth layout bundle results h) step is.is_step in
      let has = beside_it.1.agree id is.envelope.payload counts_as in
      let same : is.envelope.payload ≡ has.payload =
      beside_it.1.one_body id is.envelope.payload has.payload counts_as has.counted in
      of_body (holds_below setting depth) bundle step.name id is.envelope.payload sublayout has.body
      (recorded_in beside_it.0) is.is_layout
      (subst (λ p. BodyOf step.name p has.body) (sym same) has.reads) has.records

-- the sublayouts for a step under one key id have one payload, where the layout holds
pub one_payload : (setting : Setting) (layout : Layout) (bundle : Contents) (step : Step)
    (id : List ℕ) (x y : Layout)
    (first : IsSublayout (IsSigner setting.panel) layout bundle step id x)
    (second : IsSublayout (IsSigner setting.panel) layout bundle step id y) (depth : ℕ)
    (results : List StepResult) → Chain setting depth layout bundle results
    → first.envelope.payload ≡ second.envelope.payload
one_payload setting layout bundle step id x y first second depth results h =
    let beside_it = beside (StepHolds (holds_below setting depth) setting layout bundle)
    layout.steps results (step_records setting depth layout bundle results h) step first.is_step in
    beside_it.1.one_body id first.envelope.payload second.envelope.payload
    (counts_as setting layout bundle step id x first)
    (counts_as setting layout bundle step id y second)

-- what holds below a level is below it
pub some_depth : (setting : Setting) (depth : ℕ) (layout : Layout) (bundle : Contents)
    (results : List StepResult) → holds_below setting depth layout bundle results → 0 < depth
some_depth setting zero layout bundle results h = absurd h
some_depth setting (suc depth) layout bundle results h = omega arith

module _ (setting : Setting) (depth lower : ℕ) (next : depth ≡ suc lower) where
  pub holds_lower : (layout : Layout) (bundle : Contents) (results : List StepResult)
      → holds_below setting depth layout bundle results
      → Chain setting lower layout bundle results
  holds_lower layout bundle results h =
      subst (λ n. holds_below setting n layout bundle results) next h

  pub holds_higher : (layout : Layout) (bundle : Contents) (results : List StepResult)
      → Chain setting lower layout bundle results
      → holds_below setting depth layout bundle results
  holds_higher layout bundle results h =
      subst (λ n. holds_below setting n layout bundle results) (sym next) h

  pub listed_higher : (at : List Place) (layout : Layout) (bundle : Contents)
      (before found : List CountedSublayout)
      → AreCountedAfter setting lower at layout bundle before found
      → listed_below setting depth at layout bundle before found
  listed_higher at layout bundle before found h =
      subst (λ n. listed_below setting n at layout bundle before found) (sym next) h

-- what is listed for each step is all that counts
pub all_counted : (setting : Setting) (depth : ℕ) (at : List Place) (layout : Layout)
    (bundle : Contents) (before found : List CountedSublayout)
    → InTurn (ListedForStep (listed_below setting depth) (holds_below setting depth) setting at
    layout bundle) layout.steps before found
    → AreCountedAfter setting depth at layout bundle before found
all_counted setting zero at layout bundle before found h = h
all_counted setting (suc depth) at layout bundle before found h = h
