-- Signed entry timestamps (Rekor v1): what the log signs to promise an entry.
use Rattle.std.specs.Prelude.{ℕ, List, ◌++◌, codes, decimal}
use Rattle.hex.specs.Hex.{encode_lower}
use Rattle.it_p256.specs.Key.{Key}
use Rattle.it_p256.specs.Signature.{IsSignature}
use Rattle.it_base.specs.Base64Text.{base64_encoded}
use Rattle.it_log_entry.specs.declared.entry.LogEntry.{LogEntry}

-- the canonical JSON text (RFC 8785) of an object with the body, the time, the log's id and the
-- index
unfoldable pub stamp_text : LogEntry → List ℕ
stamp_text entry =
    codes "{\"body\":\"" ++ base64_encoded entry.body
    ++ codes "\",\"integratedTime\":" ++ decimal entry.time
    ++ codes ",\"logID\":\"" ++ encode_lower entry.log_id
    ++ codes "\",\"logIndex\":" ++ decimal entry.index ++ codes "}"

-- the promise of an entry is the key's signature of that text
abbrev pub IsPromised : Key → LogEntry → Type 0
IsPromised key entry = IsSignature key (stamp_text entry) entry.promise
