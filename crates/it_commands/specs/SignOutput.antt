-- What `itv sign` writes.
use Rattle.std.specs.Prelude.{◌≡◌, ℕ, List, ◌++◌, codes}
use Rattle.it_dsse.specs.Signing.{IsSignedUnder}
use Rattle.it_dsse.specs.Written.{written_form}
use Rattle.it_dsse.specs.declared.envelope.Envelope.{Envelope}
use Rattle.it_dsse.specs.declared.ring_entry.RingEntry.{RingEntry}

-- the text is the written form of the body's envelope under a key of the ring, and a line feed
pub record IsSignOutput (ring : List RingEntry) (id kind body text : List ℕ) : Type 0 where
  pub envelope : Envelope
  pub signed : IsSignedUnder ring id kind body envelope
  pub text_is : text ≡ written_form envelope ++ codes "\n"
