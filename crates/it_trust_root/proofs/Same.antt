-- Bytes are one trusted root at most.
use Rattle.std.proofs.Common.{◌≡◌, ◌∙◌, ℕ, ℤ, pos, ◌+ℤ◌, ◌*ℤ◌, List, [], ◌∷◌, ◌++◌, codes, Option, Some, None}
use Rattle.std.proofs.Common.{MatchOption, ap, sym, subst}
use Rattle.std.proofs.lemmas.List.{append_cancel_right}
use Rattle.serde_json.specs.Data.{Data}
use Rattle.serde_json.specs.Find.{as_str}
use Rattle.it_base.specs.Base64Text.{IsBase64}
use Rattle.it_base.specs.Document.{member_at}
use Rattle.it_base.specs.Parts.{IsPart}
use Rattle.it_base.specs.Sequence.{IsList}
use Rattle.it_base.specs.Table.{Stands}
use Rattle.it_base.specs.Text.{IsText}
use Rattle.it_base.proofs.Unique.{IsUnique, list_same, of_document_same, part_same, text_same}
use Rattle.it_docs.proofs.Moments.{same_moment}
use Rattle.it_docs.proofs.Same.{part_or_same}
use Rattle.it_docs.specs.Moment.{MomentOf}
use Rattle.it_log.specs.declared.log.Log.{Log}
use Rattle.it_p256.proofs.Infos.{same_key}
use Rattle.it_trust_root.specs.Authority.{IsAuthority, IsRawBytes}
use Rattle.it_trust_root.specs.Log.{IsListedKey, IsListedLog, IsRootLog, IsUnusable, IsUsable, LogOf}
use Rattle.it_trust_root.specs.Root.{IsRoot, RootOf}
use Rattle.it_trust_root.specs.Time.{IsFraction, IsTime, TimeOf}
use Rattle.it_trust_root.specs.Window.{IsWindow}
use Rattle.it_trust_root.specs.declared.listed_log.ListedLog.{ListedLog}
use Rattle.it_trust_root.specs.declared.root.TrustedRoot.{TrustedRoot}
use Rattle.it_trust_root.specs.declared.root_log.RootLog.{RootLog}
use Rattle.it_trust_root.specs.declared.root_log.RootLog.TheVariants.{Usable, PassedOver}
use Rattle.it_trust_root.specs.declared.root_log.Unusable.{Unusable}
use Rattle.it_trust_root.specs.declared.root_log.Unusable.TheVariants.{HashAlgorithm, KeyDetails}
use Rattle.it_trust_root.specs.declared.root_log.Unusable.TheVariants.{IdLength}
use Rattle.it_trust_root.proofs.Logs.{base64_same}
use Rattle.it_trust_root.proofs.Times.{back_is, front_is}

-- ---- times
fraction_same : (text : List ℕ) (m n : ℕ) → IsFraction text m → IsFraction text n → m ≡ n
fraction_same [] m n h k = h ∙ sym k
fraction_same (mark ∷ digits) m n h k = h.1.number_is ∙ sym k.1.number_is

time_text_same : (text : List ℕ) (x y : ℤ) → TimeOf text x → TimeOf text y → x ≡ y
time_text_same text x y h k =
    let fronts : h.to_second ≡ k.to_second = sym (front_is text x h) ∙ front_is text y k in
    let fractions : h.fraction ≡ k.fraction = append_cancel_right h.fraction k.fraction (codes "Z")
    (sym (back_is text x h) ∙ back_is text y k) in
    let moments : h.moment ≡ k.moment = same_moment (k.to_second ++ codes "Z") h.moment k.moment
    (subst (λ f. MomentOf (f ++ codes "Z") h.moment) fronts h.moment_is) k.moment_is in
    let parts : h.nanoseconds ≡ k.nanoseconds = fraction_same k.fraction h.nanoseconds k.nanoseconds
    (subst (λ f. IsFraction f h.nanoseconds) fractions h.fraction_is) k.fraction_is in
    h.time_is ∙ (λ i. (pos 1_000_000_000 *ℤ moments i) +ℤ pos (parts i)) ∙ sym k.time_is

time_found : (found : Option (List ℕ)) (x y : ℤ) → MatchOption found ⊥ (λ text. TimeOf text x)
    → MatchOption found ⊥ (λ text. TimeOf text y) → x ≡ y
time_found None x y h k = absurd h
time_found (Some text) x y h k = time_text_same text x y h k

time_same : IsUnique IsTime
time_same d x y h k = time_found (as_str d) x y h k

end_same : (found : Option Data) (x y : Option ℤ) → Stands IsTime found x → Stands IsTime found y
    → x ≡ y
end_same None x y h k = h ∙ sym k
end_same (Some v) x y h k = h.1 ∙ ap Some (time_same v h.0 k.0 h.2 k.2) ∙ sym k.1

window_same : IsUnique IsWindow
window_same d x y h k =
    let start = part_same IsTime time_same (codes "start") d x.start y.start h.start_is k.start_is in
    let end = end_same (member_at (codes "end") d) x.end y.end h.end_is k.end_is in
    λ i. record { start = start i; end = end i }

-- ---- logs
listed_key_same : IsUnique IsListedKey
listed_key_same d x y h k =
    let details = part_same IsText text_same (codes "keyDetails") d x.details y.details h.details
    k.details in
    let bytes = part_same IsBase64 base64_same (codes "rawBytes") d x.bytes y.bytes h.bytes k.bytes in
    let window = part_same IsWindow window_same (codes "validFor") d x.window y.window h.window
    k.window in
    λ i. record { details = details i; bytes = bytes i; window = window i }

listed_log_same : IsUnique IsListedLog
listed_log_same d x y h k =
    let hash_algorithm = part_same IsText text_same (codes "hashAlgorithm") d x.hash_algorithm
    y.hash_algorithm h.hash_algorithm k.hash_algorithm in
    let key = part_same IsListedKey listed_key_same (codes "publicKey") d x.key y.key h.key k.key in
    let id = part_same (IsPart IsBase64 (codes "keyId")) (part_same IsBase64 base64_same (codes "keyId"))
    (codes "logId") d x.id y.id h.id k.id in
    λ i. record { hash_algorithm = hash_algorithm i; key = key i; id = id i }

usable_same : (listed : ListedLog) (x y : Log) → IsUsable listed x → IsUsable listed y → x ≡ y
usable_same listed x y h k =
    let id = h.id_is ∙ sym k.id_is in
    let key = same_key x.key y.key h.is_key k.is_key (sym h.key_is ∙ k.key_is) in
    let window = h.window_is ∙ sym k.window_is in
    λ i. record { id = id i; key = key i; window = window i }

reason_same : (listed : ListedLog) (x y : Unusable) → IsUnusable listed x → IsUnusable listed y → x ≡ y
reason_same listed (HashAlgorithm x) (HashAlgorithm y) h k = ap (λ n. HashAlgorithm n) (h.1 ∙ sym k.1)
reason_same listed (HashAlgorithm x) (KeyDetails y) h k = absurd (h.0 k.0)
reason_same listed (HashAlgorithm x) (IdLength y) h k = absurd (h.0 k.0)
reason_same listed (KeyDetails x) (HashAlgorithm y) h k = absurd (k.0 h.0)
reason_same listed (KeyDetails x) (KeyDetails y) h k = ap (λ n. KeyDetails n) (h.2 ∙ sym k.2)
reason_same listed (KeyDetails x) (IdLength y) h k = absurd (h.1 k.1)
reason_same listed (IdLength x) (HashAlgorithm y) h k = absurd (k.0 h.0)
reason_same listed (IdLength x) (KeyDetails y) h k = absurd (k.1 h.1)
reason_same listed (IdLength x) (IdLength y) h k = ap (λ n. IdLength n) (h.3 ∙ sym k.3)

-- a usable log is not passed over
not_both : (listed : ListedLog) (log : Log) (reason : Unusable) → IsUsable listed log
    → IsUnusable listed reason → ⊥
not_both listed log (HashAlgorithm name) h k = k.0 h.hash_algorithm
not_both listed log (KeyDetails name) h k = k.1 h.details
not_both listed log (IdLength n) h k = k.2 h.id_long

log_of_same : (listed : ListedLog) (x y : RootLog) → LogOf listed x → LogOf listed y → x ≡ y
log_of_same listed (Usable x) (Usable y) h k = ap (λ l. Usable l) (usable_same listed x y h k)
log_of_same listed (Usable x) (PassedOver y) h k = absurd (not_both listed x y h k)
log_of_same listed (PassedOver x) (Usable y) h k = absurd (not_both listed y x k h)
log_of_same listed (PassedOver x) (PassedOver y) h k =
    ap (λ r. PassedOver r) (reason_same listed x y h k)

root_log_same : IsUnique IsRootLog
root_log_same d x y h k =
    log_of_same h.listed x y h.log_is
    (subst (λ l. LogOf l y) (listed_log_same d k.listed h.listed k.is_listed h.is_listed) k.log_is)

-- ---- authorities
raw_same : IsUnique IsRawBytes
raw_same = part_same IsBase64 base64_same (codes "rawBytes")

authority_same : IsUnique IsAuthority
authority_same d x y h k =
    let certificates = part_same (IsPart (IsList IsRawBytes) (codes "certificates"))
    (part_same (IsList IsRawBytes) (list_same IsRawBytes raw_same) (codes "certificates"))
    (codes "certChain") d x.certificates y.certificates h.certificates k.certificates in
    let window = part_same IsWindow window_same (codes "validFor") d x.window y.window h.window
    k.window in
    λ i. record { certificates = certificates i; window = window i }

-- ---- trusted roots
root_same : IsUnique IsRoot
root_same d x y h k =
    let logs = part_or_same (IsList IsRootLog) [] (codes "tlogs") (list_same IsRootLog root_log_same)
    d x.logs y.logs h.logs.part_is k.logs.part_is in
    let authorities = part_or_same (IsList IsAuthority) [] (codes "certificateAuthorities")
    (list_same IsAuthority authority_same) d x.authorities y.authorities h.authorities.part_is
    k.authorities.part_is in
    let certificate_logs = part_or_same (IsList IsRootLog) [] (codes "ctlogs")
    (list_same IsRootLog root_log_same) d x.certificate_logs y.certificate_logs
    h.certificate_logs.part_is k.certificate_logs.part_is in
    λ i. record {
      logs = logs i;
      authorities = authorities i;
      certificate_logs = certificate_logs i;
    }

pub one_root : (bytes : List ℕ) (x y : TrustedRoot) → RootOf bytes x → RootOf bytes y → x ≡ y
one_root = of_document_same IsRoot root_same
