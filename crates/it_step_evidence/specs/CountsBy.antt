-- By what something counts for a step of a layout (in-toto 1.0 section 5.2, verifying the final
-- product): key ids, files, and signatures.
use Rattle.std.specs.Prelude.{◌≡◌, ℕ, List}
use Rattle.it_dsse.specs.Signed.{Vouches, message_of}
use Rattle.it_docs.specs.declared.layout.Layout.{Layout}
use Rattle.it_docs.specs.declared.step.Step.{Step}
use Rattle.it_chain.specs.Contents.{Contents}
use Rattle.it_chain.specs.CountedBodies.{Setting, Counted}
use Rattle.it_valid_signatures.specs.FirstPlace.{IsFirstPlace}

module _ (setting : Setting) (layout : Layout) (bundle : Contents) (step : Step) where
  -- something counts for the step under a key id
  abbrev pub CountsUnder : List ℕ → Type 0
  CountsUnder id = (payload : List ℕ) × Counted setting layout bundle step id payload

  -- what is in a file of this name counts for the step under a key id
  pub record CountsBy (id name : List ℕ) : Type 0 where
    pub payload : List ℕ
    pub counted : Counted setting layout bundle step id payload
    pub name_is : counted.file.name ≡ name

  -- and among the signatures of its envelope this is the place, from 1, of the first that is
  -- admitted for the id and valid for the key under it
  pub record CountsAt (id name : List ℕ) (place : ℕ) : Type 0 where
    pub by : CountsBy id name
    pub first : IsFirstPlace
        (Vouches setting.panel id by.counted.key (message_of by.counted.envelope))
        by.counted.envelope.signatures place
