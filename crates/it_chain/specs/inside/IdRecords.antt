-- The records of the key ids that count for a step. Nothing here is trusted.
use Rattle.std.specs.Prelude.{◌≡◌, ℕ, List, [], ◌∷◌, Option, None, Some, Result, Ok, Err, Contains}
use Rattle.it_dsse.specs.Panel.{KeyNumber}
use Rattle.it_docs.specs.declared.layout.Layout.{Layout}
use Rattle.it_docs.specs.declared.step.Step.{Step}
use Rattle.it_rules.specs.Item.{Recorded}
use Rattle.it_chain.specs.Contents.{Contents}
use Rattle.it_chain.specs.CountedBodies.{Setting, Counted}
use Rattle.it_chain.specs.First.{IsBefore}
use Rattle.it_chain.specs.Level.{Holding, HasRecord}
use Rattle.it_chain.specs.declared.record.IdRecord.{IdRecord}
use Rattle.it_chain.specs.declared.refusal.ChainError.{ChainError}
use Rattle.it_chain.specs.declared.refusal.ChainError.TheVariants.{OutOfMemory}

module _ (sub : Holding) (setting : Setting) (layout : Layout) (bundle : Contents)
    (step : Step) where
  -- an id counts with this record, and with no other body
  pub record IsGiven (id : List ℕ) (r : IdRecord) : Type 0 where
    pub id_is : r.id ≡ id
    pub recorded : HasRecord sub setting layout bundle step id r.recorded
    pub key_is : recorded.counted.key ≡ r.key
    pub alone : (other : List ℕ) → Counted setting layout bundle step id other
        → recorded.payload ≡ other

  -- an id does not count, or counts with a record
  abbrev pub Gives : List ℕ → Option IdRecord → Type 0
  Gives id None = (payload : List ℕ) → ¬ Counted setting layout bundle step id payload
  Gives id (Some r) = IsGiven id r

-- each record's id comes before those of the later ones
abbrev pub InOrder : List IdRecord → Type 0
InOrder [] = Unit {0}
InOrder (r ∷ rs) = ((other : IdRecord) → Contains rs other → IsBefore r.id other.id) × InOrder rs

module _ (sub : Holding) (setting : Setting) (layout : Layout) (bundle : Contents)
    (step : Step) where
  -- the records of a step: one for each id that counts
  pub record AreRecords (records : List IdRecord) : Type 0 where
    pub each : (r : IdRecord) → Contains records r → IsGiven sub setting layout bundle step r.id r
    pub all : (id payload : List ℕ) → Counted setting layout bundle step id payload → (r : IdRecord)
        × Contains records r × IsGiven sub setting layout bundle step id r
    pub in_order : InOrder records

-- the record of an id whose body yielded this
abbrev pub IsRecordOf : List ℕ → KeyNumber → Result Recorded ChainError
    → Result (Option IdRecord) ChainError → Type 0
IsRecordOf id key (Ok recorded) (Ok given) =
    given ≡ Some (record { id = id; key = key; recorded = recorded })
IsRecordOf id key (Ok recorded) (Err e) = e ≡ OutOfMemory
IsRecordOf id key (Err e) (Ok given) = ⊥
IsRecordOf id key (Err e) (Err f) = f ≡ e
