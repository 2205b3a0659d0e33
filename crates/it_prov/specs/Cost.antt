-- The most validity checks that the search for provenance counts. Finding out who signed comes
-- before the search and is not counted (specific to this project; no standard covers it).
use Rattle.std.specs.Prelude.{ℕ, List, length}
use Rattle.std.specs.List.{sum_by}
use Rattle.std.specs.FinMap.{len}
use Rattle.it_dsse.specs.declared.envelope.Envelope.{Envelope}
use Rattle.it_docs.specs.declared.policy.Builder.{Builder}

-- how many keys builders have
abbrev pub key_count : List Builder → ℕ
key_count builders = sum_by (λ builder. len builder.keys) builders

-- how many signatures envelopes have
abbrev pub signature_count : List Envelope → ℕ
signature_count envelopes = sum_by (λ envelope. length envelope.signatures) envelopes
