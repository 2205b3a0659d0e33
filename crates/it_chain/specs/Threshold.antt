-- How many different keys signed what counts for a step (in-toto 1.0 section 5.2, the threshold of
-- a step; that keys and not their ids are counted is this profile's choice).
use Rattle.std.specs.Prelude.{◌≡◌, ◌↔◌, ℕ, List, length, Bool, ◌&&◌, nat_eq, Contains}
use Rattle.std.specs.List.{IsDistinct}
use Rattle.it_dsse.specs.Panel.{KeyNumber}
use Rattle.it_docs.specs.declared.layout.Layout.{Layout}
use Rattle.it_docs.specs.declared.step.Step.{Step}
use Rattle.it_chain.specs.Contents.{Contents}
use Rattle.it_chain.specs.CountedBodies.{Setting, Counted}

-- whether two numbers of a panel name one key
abbrev pub same_key : KeyNumber → KeyNumber → Bool
same_key a b = nat_eq a.0 b.0 && nat_eq a.1 b.1

-- a key signed some body that counts for a step
pub record KeyCounts (setting : Setting) (layout : Layout) (bundle : Contents) (step : Step)
    (key : KeyNumber) : Type 0 where
  pub id : List ℕ
  pub payload : List ℕ
  pub counted : Counted setting layout bundle step id payload
  pub key_is : counted.key ≡ key

-- the number of different keys that signed a body that counts for a step: the length of a list that
-- has each of these keys once, and no other
pub record Found (setting : Setting) (layout : Layout) (bundle : Contents) (step : Step)
    (found : ℕ) : Type 0 where
  pub keys : List KeyNumber
  pub once : IsDistinct same_key keys
  pub are_those : (key : KeyNumber) → Contains keys key ↔ KeyCounts setting layout bundle step key
  pub number_is : length keys ≡ found
