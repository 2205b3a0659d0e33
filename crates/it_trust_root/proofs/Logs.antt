-- Logs in documents, and logs whose key is none.
use Rattle.std.proofs.Common.{◌≡◌, ◌∙◌, length, Option, Some, None, MatchOption, codes}
use Rattle.std.proofs.Common.{sym, ap, refl}
use Rattle.std.proofs.lemmas.Option.{same_Some}
use Rattle.serde_json.specs.Data.{Data}
use Rattle.it_base.specs.Base64Text.{IsBase64}
use Rattle.it_base.specs.Document.{member_at}
use Rattle.it_base.specs.Finds.{Finds}
use Rattle.it_base.specs.Parts.{IsPart}
use Rattle.it_base.specs.Text.{IsText}
use Rattle.it_base.proofs.Unique.{IsUnique, part_same, text_same}
use Rattle.it_p256.specs.Key.{Key, IsKey, info_of}
use Rattle.it_trust_root.specs.Log.{IsListedKey, IsListedLog, IsRootLog, LogOf, usable_algorithm}
use Rattle.it_trust_root.specs.Log.{usable_details}
use Rattle.it_trust_root.specs.declared.listed_log.ListedKey.{ListedKey}
use Rattle.it_trust_root.specs.declared.listed_log.ListedLog.{ListedLog}
use Rattle.it_trust_root.specs.declared.root_log.RootLog.{RootLog}
use Rattle.it_trust_root.specs.declared.root_log.RootLog.TheVariants.{Usable, PassedOver}
use Rattle.it_trust_root.specs.declared.root_log.Unusable.TheVariants.{HashAlgorithm, KeyDetails}
use Rattle.it_trust_root.specs.declared.root_log.Unusable.TheVariants.{IdLength}

pub no_log : (listed : ListedLog) → listed.hash_algorithm ≡ usable_algorithm
    → listed.key.details ≡ usable_details → length listed.id ≡ 32
    → ((key : Key) → IsKey key → listed.key.bytes ≡ info_of key → ⊥)
    → (log : RootLog) → ¬ LogOf listed log
no_log listed algorithm details long none (Usable log) is = none log.key is.is_key is.key_is
no_log listed algorithm details long none (PassedOver (HashAlgorithm name)) is = is.0 algorithm
no_log listed algorithm details long none (PassedOver (KeyDetails name)) is = is.1 details
no_log listed algorithm details long none (PassedOver (IdLength n)) is = is.2 long

pub base64_same : IsUnique IsBase64
base64_same d x y h k = same_Some x y (sym h ∙ k)

-- two readings of a log agree in all but the window
record AreAlike (x y : ListedLog) : Type 0 where
  algorithm : x.hash_algorithm ≡ y.hash_algorithm
  details : x.key.details ≡ y.key.details
  bytes : x.key.bytes ≡ y.key.bytes
  id : x.id ≡ y.id

details_same : (found : Option Data) (x y : ListedKey) → MatchOption found ⊥ (λ v. IsListedKey v x)
    → MatchOption found ⊥ (λ v. IsListedKey v y) → x.details ≡ y.details
details_same None x y h k = absurd h
details_same (Some v) x y h k =
    part_same IsText text_same (codes "keyDetails") v x.details y.details h.details k.details

bytes_same : (found : Option Data) (x y : ListedKey) → MatchOption found ⊥ (λ v. IsListedKey v x)
    → MatchOption found ⊥ (λ v. IsListedKey v y) → x.bytes ≡ y.bytes
bytes_same None x y h k = absurd h
bytes_same (Some v) x y h k =
    part_same IsBase64 base64_same (codes "rawBytes") v x.bytes y.bytes h.bytes k.bytes

alike : (d : Data) (x y : ListedLog) → IsListedLog d x → IsListedLog d y → AreAlike x y
alike d x y h k = record {
  algorithm = part_same IsText text_same (codes "hashAlgorithm") d x.hash_algorithm y.hash_algorithm
      h.hash_algorithm k.hash_algorithm;
  details = details_same (member_at (codes "publicKey") d) x.key y.key h.key k.key;
  bytes = bytes_same (member_at (codes "publicKey") d) x.key y.key h.key k.key;
  id = part_same (IsPart IsBase64 (codes "keyId")) (part_same IsBase64 base64_same (codes "keyId"))
      (codes "logId") d x.id y.id h.id k.id;
}

-- so where one is no log, the other is none
none_alike : (x y : ListedLog) → AreAlike x y → ((log : RootLog) → ¬ LogOf y log)
    → (log : RootLog) → ¬ LogOf x log
none_alike x y same none (Usable log) is = none (Usable (record {
  id = log.id;
  key = log.key;
  window = y.key.window;
})) (record {
  hash_algorithm = sym same.algorithm ∙ is.hash_algorithm;
  details = sym same.details ∙ is.details;
  id_is = is.id_is ∙ same.id;
  id_long = ap length (sym same.id) ∙ is.id_long;
  is_key = is.is_key;
  key_is = sym same.bytes ∙ is.key_is;
  window_is = refl;
})
none_alike x y same none (PassedOver (HashAlgorithm name)) is = none (PassedOver (HashAlgorithm name))
    (λ e. is.0 (same.algorithm ∙ e), is.1 ∙ same.algorithm)
none_alike x y same none (PassedOver (KeyDetails name)) is = none (PassedOver (KeyDetails name))
    (sym same.algorithm ∙ is.0, λ e. is.1 (same.details ∙ e), is.2 ∙ same.details)
none_alike x y same none (PassedOver (IdLength n)) is = none (PassedOver (IdLength n)) (
  sym same.algorithm ∙ is.0,
  sym same.details ∙ is.1,
  λ e. is.2 (ap length same.id ∙ e),
  is.3 ∙ ap length same.id,
)

pub log_found : (d : Data) (listed : ListedLog) (found : Option RootLog) → IsListedLog d listed
    → Finds (LogOf listed) found → Finds (IsRootLog d) found
log_found d listed None is none = λ log other.
    none_alike other.listed listed (alike d other.listed listed other.is_listed is) none log other.log_is
log_found d listed (Some log) is here = record {
  listed = listed;
  is_listed = is;
  log_is = here;
}
