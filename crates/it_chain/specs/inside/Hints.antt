-- Which envelopes a key can have signed under an id, by the hints of their signatures (DSSE v1.0,
-- "Protocol"; that a signature without a hint is tried for each id is this profile's choice).
-- Nothing here is trusted.
use Rattle.std.specs.Prelude.{◌≡◌, ◌&&◌, ℕ, List, [], ◌++◌, Bool, not, filter}
use Rattle.std.specs.List.{list_any}
use Rattle.std.specs.Str.{bytes_eq}
use Rattle.it_dsse.specs.declared.envelope.Envelope.{Envelope}
use Rattle.it_dsse.specs.declared.envelope.Signature.{Signature}
use Rattle.it_chain.specs.inside.Places.{items_at, places_under}
use Rattle.it_chain.specs.declared.hints.Hints.{Hints}

-- a signature has this hint
abbrev pub hints_at : List ℕ → List Signature → Bool
hints_at id signatures = list_any (λ signature. bytes_eq id signature.keyid) signatures

-- a signature has no hint, so that any key may have made it
abbrev pub is_unhinted : Envelope → Bool
is_unhinted envelope = hints_at [] envelope.signatures

-- each signature has a hint, and that of one is the id
abbrev pub is_under : List ℕ → Envelope → Bool
is_under id envelope = hints_at id envelope.signatures && not (is_unhinted envelope)

-- the envelopes that a key can have signed under an id
abbrev pub admitted_for : List ℕ → List Envelope → List Envelope
admitted_for id envelopes = filter is_unhinted envelopes ++ filter (is_under id) envelopes

-- these are the places of the envelopes, by their hints
pub record AreHints (envelopes : List Envelope) (hints : Hints) : Type 0 where
  pub unhinted : items_at envelopes hints.unhinted.items ≡ filter is_unhinted envelopes
  pub named : (id : List ℕ)
      → items_at envelopes (places_under hints.named id) ≡ filter (is_under id) envelopes
