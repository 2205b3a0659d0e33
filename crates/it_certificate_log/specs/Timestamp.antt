-- Signed certificate timestamps (RFC 6962, section 3.2).
use Rattle.std.specs.Prelude.{◌≡◌, ℕ, ◌^◌, ◌<◌, List, [], ◌∷◌, ◌++◌, length}
use Rattle.it_certificate_log.specs.Counted.{counted}
use Rattle.it_certificate_log.specs.declared.timestamp.Timestamp.{Timestamp}

-- a timestamp without where it lies in memory
pub record Stamp : Type 0 where
  pub log : List ℕ
  pub moment : List ℕ
  pub extensions : List ℕ
  pub signature : List ℕ

abbrev pub stamp_of : Timestamp → Stamp
stamp_of t = record {
  log = t.log.now;
  moment = t.moment.now;
  extensions = t.extensions.now;
  signature = t.signature.now;
}

-- the item is the timestamp: version 1 (the number 0), the log's id, the moment, the extensions,
-- the numbers of SHA-256 and of ECDSA (RFC 5246, section 7.4.1.4.1), and the signature
pub record TimestampOf (item : List ℕ) (s : Stamp) : Type 0 where
  pub log_size : length s.log ≡ 32
  pub moment_size : length s.moment ≡ 8
  pub extensions_short : length s.extensions < 2 ^ 16
  pub signature_short : length s.signature < 2 ^ 16
  pub written : item ≡ (0 ∷ []) ++ (s.log ++ (s.moment ++ (counted s.extensions
      ++ ((4 ∷ 3 ∷ []) ++ (counted s.signature)))))
