-- What counts for a key id among the files that were read. Nothing here is trusted.
use Rattle.std.specs.Prelude.{◌≡◌, ◌≢◌, ℕ, List, Contains}
use Rattle.it_dsse.specs.Panel.{KeyNumber, Panel}
use Rattle.it_dsse.specs.Signed.{Signed}
use Rattle.it_dsse.specs.declared.envelope.Envelope.{Envelope}
use Rattle.it_dsse.specs.declared.key_object.KeyObject.{KeyObject}
use Rattle.it_chain.specs.inside.Candidates.{IsBody}
use Rattle.it_chain.specs.declared.body.Body.{Body as Held}
use Rattle.it_chain.specs.declared.counted_bodies.FoundBody.{FoundBody}
use Rattle.it_chain.specs.declared.counted_bodies.Counting.{Counting}
use Rattle.it_chain.specs.declared.counted_bodies.Counting.TheVariants.{Nothing, One, Several}

module _ (panel : Panel) (step id : List ℕ) (object : KeyObject) where
  -- the key signed the envelope, whose payload is the body for the step
  abbrev pub IsSignedBody : Envelope → KeyNumber × Held → Type 0
  IsSignedBody envelope found =
      Signed panel envelope id object found.0 × IsBody step envelope.payload found.1

  module _ (envelopes : List Envelope) where
    -- such an envelope is among these
    pub record IsSigned (envelope : Envelope) (key : KeyNumber) (body : Held) : Type 0 where
      pub stands : Contains envelopes envelope
      pub signed : IsSignedBody envelope (key, body)

    -- one body, and no other
    pub record CountsOne (found : FoundBody) : Type 0 where
      pub is : IsSigned found.envelope.now found.key found.body
      pub alone : (other : Envelope) (k : KeyNumber) (b : Held) → IsSigned other k b
          → found.envelope.now.payload ≡ other.payload

    -- two that differ
    pub record CountTwo : Type 0 where
      pub one : Envelope
      pub other : Envelope
      pub one_key : KeyNumber
      pub other_key : KeyNumber
      pub one_body : Held
      pub other_body : Held
      pub one_is : IsSigned one one_key one_body
      pub other_is : IsSigned other other_key other_body
      pub differ : one.payload ≢ other.payload

    abbrev pub Counts : Counting → Type 0
    Counts Nothing = (envelope : Envelope) (key : KeyNumber) (body : Held)
        → ¬ IsSigned envelope key body
    Counts (One found) = CountsOne found
    Counts Several = CountTwo
