-- What a bundle holds of a file.
use Rattle.std.specs.Prelude.{◌≡◌, ℕ, List}
use Rattle.it_dsse.specs.Envelope.{EnvelopeOf}
use Rattle.it_dsse.specs.declared.envelope.Envelope.{Envelope}
use Rattle.it_chain.specs.declared.held_file.Held.{Held}
use Rattle.it_chain.specs.declared.held_file.Held.TheVariants.{Read, Unread}

-- the envelope that the bytes are, or the bytes themselves where they are no envelope
abbrev pub IsHeld : List ℕ → Held → Type 0
IsHeld bytes (Read envelope) = EnvelopeOf bytes envelope
IsHeld bytes (Unread kept) =
    (kept ≡ bytes) × ((envelope : Envelope) → ¬ EnvelopeOf bytes envelope)
