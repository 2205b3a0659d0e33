-- What a layout comes to on one side of a comparison it comes to on the other, where the same counts
-- there: of one level, what its sublayouts come to being given, and then of each depth.
use Rattle.std.proofs.Common.{ℕ, zero, suc, List, [], ◌∷◌, ◌++◌, map, flat_map, inl, inr}
use Rattle.std.proofs.Common.{⊎_elim, Contains, refl, arith}
use Rattle.std.specs.List.{AllZip}
use Rattle.std.specs.FinMap.{keys}
use Rattle.it_base.specs.Places.{IsFirst}
use Rattle.it_docs.specs.Layout.{LayoutOf}
use Rattle.it_docs.specs.declared.layout.Layout.{Layout}
use Rattle.it_docs.specs.declared.step.Step.{Step}
use Rattle.it_rules.specs.Item.{Recorded}
use Rattle.it_chain.specs.Chain.{Chain, none_holds}
use Rattle.it_chain.specs.Contents.{Contents}
use Rattle.it_chain.specs.CountedBodies.{Setting, Body, of_link, of_layout, BodyOf, Counted}
use Rattle.it_chain.specs.Expiry.{IsExpired}
use Rattle.it_chain.specs.Threshold.{Found}
use Rattle.it_chain.specs.First.{Failing, ChainPlace, at_expiry, at_id, at_threshold, at_records}
use Rattle.it_chain.specs.First.{at_rules, step_places, rule_places, places, StandsInChain}
use Rattle.it_chain.specs.First.{LevelFails, FirstChainFailure, too_deep, uninspected}
use Rattle.it_chain.specs.Level.{Holding, Records, HasRecord, StepHolds, LevelHolds}
use Rattle.it_chain.specs.Sublayouts.{folder_of}
use Rattle.it_chain.specs.declared.chain.StepResult.{StepResult}
use Rattle.it_chain.specs.declared.refusal.ChainRefusal.{ChainRefusal}

-- one side of a comparison: a bundle in a setting, and what sublayouts come to there
pub record Side : Type 1 where
  pub holds : Holding
  pub fails : Failing
  pub setting : Setting
  pub bundle : Contents

abbrev pub CountsIn : Side → Layout → Step → List ℕ → List ℕ → Type 0
CountsIn side layout = Counted side.setting layout side.bundle

-- where the files of a sublayout are
abbrev pub inner_of : Side → Step → List ℕ → Contents
inner_of side step id = folder_of step.name id side.bundle

-- from one side to the other: what expired, what counts, how many keys are found, and what the
-- sublayouts among it come to
pub record Moves (layout : Layout) (from to : Side) : Type 0 where
  pub expiry : IsExpired from.setting layout → IsExpired to.setting layout
  pub bodies : (step : Step) (id payload : List ℕ) → Contains layout.steps step
      → CountsIn from layout step id payload → CountsIn to layout step id payload
  pub found : (step : Step) (found : ℕ) → Contains layout.steps step
      → Found from.setting layout from.bundle step found
      → Found to.setting layout to.bundle step found
  pub held : (step : Step) (id payload : List ℕ) (sublayout : Layout) (m : List StepResult)
      → Contains layout.steps step → CountsIn from layout step id payload
      → LayoutOf payload sublayout → from.holds sublayout (inner_of from step id) m
      → to.holds sublayout (inner_of to step id) m
  pub failing : (step : Step) (id payload : List ℕ) (sublayout : Layout) (refusal : ChainRefusal)
      → Contains layout.steps step → CountsIn from layout step id payload
      → LayoutOf payload sublayout → from.fails sublayout (inner_of from step id) refusal
      → to.fails sublayout (inner_of to step id) refusal

-- a place's step is one of the layout's
abbrev OfLayout : Layout → ChainPlace → Type 0
OfLayout layout at_expiry = Unit {0}
OfLayout layout (at_id step id) = Contains layout.steps step
OfLayout layout (at_threshold step) = Contains layout.steps step
OfLayout layout (at_records step) = Contains layout.steps step
OfLayout layout (at_rules step side) = Contains layout.steps step

abbrev AllOf : Layout → List ChainPlace → Type 0
AllOf layout [] = Unit {0}
AllOf layout (p ∷ ps) = OfLayout layout p × AllOf layout ps

all_append : (layout : Layout) (ps qs : List ChainPlace) → AllOf layout ps → AllOf layout qs
    → AllOf layout (ps ++ qs)
all_append layout [] qs h k = k
all_append layout (p ∷ ps) qs h k = (h.0, all_append layout ps qs h.1 k)

all_ids : (layout : Layout) (step : Step) (ids : List (List ℕ)) → Contains layout.steps step
    → AllOf layout (map (at_id step) ids)
all_ids layout step [] c = tt
all_ids layout step (id ∷ ids) c = (c, all_ids layout step ids c)

all_steps : (layout : Layout) (f : Step → List ChainPlace)
    → ((step : Step) → Contains layout.steps step → AllOf layout (f step)) → (steps : List Step)
    → ((step : Step) → Contains steps step → Contains layout.steps step)
    → AllOf layout (flat_map f steps)
all_steps layout f each [] among = tt
all_steps layout f each (step ∷ steps) among =
    all_append layout (f step) (flat_map f steps) (each step (among step (0, omega arith, refl)))
    (all_steps layout f each steps (λ s c. among s (suc c.0, omega (arith, c.1), c.2)))

all_places : (layout : Layout) → AllOf layout (places layout)
all_places layout = (
  tt,
  all_append layout (flat_map (step_places layout) layout.steps) (flat_map rule_places layout.steps)
      (all_steps layout (step_places layout)
      (λ step c. all_append layout (map (at_id step) (keys layout.keys))
      (at_threshold step ∷ at_records step ∷ []) (all_ids layout step (keys layout.keys) c)
      (c, (c, tt))) layout.steps (λ s c. c))
      (all_steps layout rule_places (λ step c. (c, (c, tt))) layout.steps (λ s c. c)),
)

module _ (layout : Layout) (a b : Side) (move : Moves layout a b) (back : Moves layout b a) where
  records_moved : (step : Step) (id payload : List ℕ) (body : Body) (recorded : Recorded)
      → Contains layout.steps step → CountsIn a layout step id payload
      → BodyOf step.name payload body → Records a.holds a.bundle step.name id body recorded
      → Records b.holds b.bundle step.name id body recorded
  records_moved step id payload (of_link link) recorded c counted reads h = h
  records_moved step id payload (of_layout sublayout) recorded c counted reads h =
      (h.0, h.1, move.held step id payload sublayout h.0 c counted reads h.2, h.3)

  record_moved : (step : Step) (id : List ℕ) (recorded : Recorded) → Contains layout.steps step
      → HasRecord a.holds a.setting layout a.bundle step id recorded
      → HasRecord b.holds b.setting layout b.bundle step id recorded
  record_moved step id recorded c h = record {
    payload = h.payload;
    body = h.body;
    counted = move.bodies step id h.payload c h.counted;
    reads = h.reads;
    records = records_moved step id h.payload h.body recorded c h.counted h.reads h.records;
  }

  step_moved : (step : Step) (result : StepResult) → Contains layout.steps step
      → StepHolds a.holds a.setting layout a.bundle step result
      → StepHolds b.holds b.setting layout b.bundle step result
  step_moved step result c h = record {
    name = h.name;
    one_body = λ id payload other x y. h.one_body id payload other (back.bodies step id payload c x)
        (back.bodies step id other c y);
    agree = λ id payload x. record_moved step id _ c
        (h.agree id payload (back.bodies step id payload c x));
    keys = move.found step result.keys c h.keys;
    threshold = h.threshold;
  }

  steps_moved : (steps : List Step) (results : List StepResult)
      → ((step : Step) → Contains steps step → Contains layout.steps step)
      → AllZip (StepHolds a.holds a.setting layout a.bundle) steps results
      → AllZip (StepHolds b.holds b.setting layout b.bundle) steps results
  steps_moved [] [] among h = tt
  steps_moved [] (r ∷ rs) among h = h
  steps_moved (s ∷ ss) [] among h = h
  steps_moved (s ∷ ss) (r ∷ rs) among h = (
    step_moved s r (among s (0, omega arith, refl)) h.0,
    steps_moved ss rs (λ step c. among step (suc c.0, omega (arith, c.1), c.2)) h.1,
  )

  level_moved : (m : List StepResult) → LevelHolds a.holds a.setting layout a.bundle m
      → LevelHolds b.holds b.setting layout b.bundle m
  level_moved m h = record {
    unexpired = λ expired. h.unexpired (back.expiry expired);
    steps = steps_moved layout.steps m (λ s c. c) h.steps;
    rules =
        h.rules;
  }

-- what stands at a place of a side
abbrev StandsAt : Layout → Side → ChainPlace → ChainRefusal → Type 0
StandsAt layout side = StandsInChain side.holds side.fails side.setting layout side.bundle

module _ (layout : Layout) (a b : Side) (move : Moves layout a b) (back : Moves layout b a) where
  stands_moved : (place : ChainPlace) (refusal : ChainRefusal) → OfLayout layout place
      → StandsAt layout a place refusal → StandsAt layout b place refusal
  stands_moved at_expiry refusal c h = (move.expiry h.0, h.1)
  stands_moved (at_id step id) refusal c h =
      ⊎_elim (λ x. let two = x.0 in inl (
        record {
          payload = two.payload;
          other = two.other;
          first = move.bodies step id two.payload c two.first;
          second = move.bodies step id two.other c two.second;
          differ = two.differ;
        },
        x.1,
      ))
      (λ k. inr (record {
        payload = k.payload;
        sublayout = k.sublayout;
        inner = k.inner;
        counted = move.bodies step id k.payload c k.counted;
        one_body = λ other x. k.one_body other (back.bodies step id other c x);
        is_layout = k.is_layout;
        fails_there = move.failing step id k.payload k.sublayout k.inner c k.counted k.is_layout
            k.fails_there;
        refusal_is = k.refusal_is;
      })) h
  stands_moved (at_threshold step) refusal c h = (
    h.0,
    record {
      is_found = move.found step h.0 c h.1.is_found;
      below = h.1.below;
    },
    h.2,
  )
  stands_moved (at_records step) refusal c h =
      let k = h.1 in (
        h.0,
        record {
          least = k.least;
          expected = k.expected;
          given = k.given;
          of_least = record_moved layout a b move back step k.least k.expected c k.of_least;
          is_least = λ other recorded x. k.is_least other recorded
              (record_moved layout b a back move step other recorded c x);
          of_id = record_moved layout a b move back step h.0 k.given c k.of_id;
          differs = k.differs;
          is_first = λ other recorded x. k.is_first other recorded
              (record_moved layout b a back move step other recorded c x);
        },
        h.2,
      )
  stands_moved (at_rules step side) refusal c h =
      let k = h.2 in (
        h.0,
        h.1,
        record {
          results = k.results;
          result = k.result;
          steps = steps_moved layout a b move back layout.steps k.results (λ s c. c) k.steps;
          of_step = k.of_step;
          fault = k.fault;
        },
        h.3,
      )

module _ (layout : Layout) (a b : Side) (move : Moves layout a b) (back : Moves layout b a) where
  first_moved : (ps : List ChainPlace) (refusal : ChainRefusal) → AllOf layout ps
      → IsFirst (StandsAt layout a) ps refusal → IsFirst (StandsAt layout b) ps refusal
  first_moved [] refusal among h = h
  first_moved (p ∷ ps) refusal among h =
      ⊎_elim (λ x. inl (stands_moved layout a b move back p refusal among.0 x))
      (λ x. inr (
        λ other y. x.0 other (stands_moved layout b a back move p other among.0 y),
        first_moved ps refusal among.1 x.1,
      )) h

  fails_moved : (refusal : ChainRefusal)
      → LevelFails a.holds a.fails a.setting layout a.bundle refusal
      → LevelFails b.holds b.fails b.setting layout b.bundle refusal
  fails_moved refusal = first_moved (places layout) refusal (all_places layout)

-- a bundle at the last depth, and at each one before
abbrev pub side_at : Setting → ℕ → Contents → Side
side_at setting zero bundle =
    record { holds = none_holds; fails = too_deep; setting = setting; bundle = bundle }
side_at setting (suc depth) bundle =
    record {
      holds = Chain setting depth;
      fails = uninspected (FirstChainFailure setting depth);
      setting = setting;
      bundle = bundle;
    }

-- what a layout comes to on one side it comes to on the other
abbrev pub Comes : ℕ → Layout → Setting → Contents → Setting → Contents → Type 0
Comes depth layout here a there b =
    ((m : List StepResult) → Chain here depth layout a m → Chain there depth layout b m)
    × ((refusal : ChainRefusal) → FirstChainFailure here depth layout a refusal
    → FirstChainFailure there depth layout b refusal)

pub come : (depth : ℕ) (layout : Layout) (here : Setting) (a : Contents) (there : Setting)
    (b : Contents) → Moves layout (side_at here depth a) (side_at there depth b)
    → Moves layout (side_at there depth b) (side_at here depth a)
    → Comes depth layout here a there b
come zero layout here a there b move back = (
  level_moved layout (side_at here 0 a) (side_at there 0 b) move back,
  fails_moved layout (side_at here 0 a) (side_at there 0 b) move back,
)
come (suc depth) layout here a there b move back = (
  level_moved layout (side_at here (suc depth) a) (side_at there (suc depth) b) move back,
  fails_moved layout (side_at here (suc depth) a) (side_at there (suc depth) b) move back,
)
