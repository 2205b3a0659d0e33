-- How far the functions that verify a level raise the meter lent to them. Nothing here is trusted.
use Rattle.std.specs.Prelude.{◌≡◌, ℕ, ◌+◌, ◌≤◌, List, length, Option, None, Some, Result}
use Rattle.std.specs.Prelude.{Ok, Err, ⊤}
use Rattle.std.specs.List.{sum_by}
use Rattle.it_base.specs.Sum.{CostsIfFound, IsSum}
use Rattle.it_dsse.specs.declared.envelope.Envelope.{Envelope}
use Rattle.it_dsse.specs.declared.meter.Meter.{Meter}
use Rattle.it_docs.specs.Layout.{LayoutOf}
use Rattle.it_docs.specs.declared.layout.Layout.{Layout}
use Rattle.it_docs.specs.declared.step.Step.{Step}
use Rattle.it_chain.specs.Contents.{Contents}
use Rattle.it_chain.specs.Cost.{Costing}
use Rattle.it_chain.specs.CountedBodies.{Setting, Body, of_link, of_layout, Counted}
use Rattle.it_chain.specs.Raised.{RaisedWithin}
use Rattle.it_chain.specs.Sublayouts.{folder_of}
use Rattle.it_chain.specs.declared.chain.StepResult.{StepResult}
use Rattle.it_chain.specs.declared.counted_bodies.Counting.{Counting}
use Rattle.it_chain.specs.declared.counted_bodies.Counting.TheVariants.{Nothing, One, Several}
use Rattle.it_chain.specs.declared.record.IdRecord.{IdRecord}

-- a call that may fail raised a meter: by at least what its value says, or 0 if it fails, and by at
-- most each number for which Most holds
abbrev pub Asks : {A E : Type 0} → (A → ℕ) → (ℕ → Type 0) → Meter → Meter → Result A E → Type 0
Asks least Most old new (Ok x) = RaisedWithin (least x) Most old new
Asks least Most old new (Err e) = RaisedWithin 0 Most old new

-- the signatures of envelopes, added up
abbrev pub SignaturesIn : List Envelope → ℕ → Type 0
SignaturesIn = IsSum (λ envelope n. n ≡ length envelope.signatures)

-- how many signatures envelopes have
abbrev pub signature_count : List Envelope → ℕ
signature_count envelopes = sum_by (λ envelope. length envelope.signatures) envelopes

-- where one body counts for an id, a signature was asked for
abbrev pub least_counted : Counting → ℕ
least_counted Nothing = 0
least_counted (One found) = 1
least_counted Several = 0

abbrev pub least_given : Option IdRecord → ℕ
least_given None = 0
least_given (Some r) = 1

-- how many keys signed for each step, added up
abbrev pub key_total : List StepResult → ℕ
key_total results = sum_by (λ result. result.keys) results

-- a key id costs the signatures of its candidates, plus one bound on the cost of any sublayout
pub record IdCosts (sub : Costing) (setting : Setting) (layout : Layout) (bundle : Contents)
    (step : Step) (signatures : ℕ) (id : List ℕ) (n : ℕ) : Type 0 where
  pub sublayouts : ℕ
  pub within : (payload : List ℕ) (sublayout : Layout)
      → Counted setting layout bundle step id payload → LayoutOf payload sublayout → (m : ℕ)
      × sub sublayout (folder_of step.name id bundle) m × (m ≤ sublayouts)
  pub sum : n ≡ signatures + sublayouts

-- a bound on what a body costs as a sublayout
abbrev pub BodyCosts : Costing → Contents → List ℕ → List ℕ → Body → ℕ → Type 0
BodyCosts sub bundle step id (of_link link) n = ⊤
BodyCosts sub bundle step id (of_layout layout) n =
    (m : ℕ) × sub layout (folder_of step id bundle) m × (m ≤ n)

-- ---- the least that is asked for a value
-- what a body takes as a sublayout; a link takes 0
abbrev pub BodyFewest : Costing → Contents → List ℕ → List ℕ → Body → ℕ → Type 0
BodyFewest sub bundle step id (of_link link) n = n ≡ 0
BodyFewest sub bundle step id (of_layout layout) n = sub layout (folder_of step id bundle) n

module _ (sub : Costing) (setting : Setting) (layout : Layout) (bundle : Contents)
    (step : Step) where
  -- a sublayout counts for a key id
  abbrev pub CountsFor : List ℕ → Layout → Type 0
  CountsFor id sublayout =
      (payload : List ℕ) × Counted setting layout bundle step id payload
      × LayoutOf payload sublayout

  abbrev pub SublayoutFewest : List ℕ → ℕ → Type 0
  SublayoutFewest id =
      CostsIfFound (CountsFor id) (λ sublayout. sub sublayout (folder_of step.name id bundle))

  -- a key id that counts takes one check, and what its sublayout takes, if it has one
  abbrev pub IdFewest : List ℕ → ℕ → Type 0
  IdFewest id n = (m : ℕ) × SublayoutFewest id m × (n ≡ m + 1)

  abbrev pub GivenFewest : Option IdRecord → ℕ → Type 0
  GivenFewest None n = n ≡ 0
  GivenFewest (Some r) n = IdFewest r.id n

  abbrev pub RecordsFewest : List IdRecord → ℕ → Type 0
  RecordsFewest = IsSum (λ r. IdFewest r.id)
