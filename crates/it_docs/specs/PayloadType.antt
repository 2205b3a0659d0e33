-- The payload type of in-toto's documents (DSSE v1.0, "Envelope", payloadType; in-toto
-- Attestation v1, envelope).
use Rattle.std.specs.Prelude.{ℕ, List, codes}

-- the payload type of layouts, links and Statements
abbrev pub in_toto_type : List ℕ
in_toto_type = codes "application/vnd.in-toto+json"
