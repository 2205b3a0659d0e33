-- What is said of a bundle that vouches for nobody (this project's words).
use Rattle.std.specs.Prelude.{ℕ, List, ◌++◌, codes, decimal}
use Rattle.it_bundle.specs.declared.certificate.NoCertificate.{NoCertificate}
use Rattle.it_bundle.specs.declared.certificate.NoCertificate.TheVariants as reasons
use Rattle.it_certificate.specs.declared.leaf_shortfall.LeafShortfall.{LeafShortfall}
use Rattle.it_certificate.specs.declared.leaf_shortfall.LeafShortfall.TheVariants as leaves
use Rattle.it_certificate.specs.declared.shortfall.CertificateShortfall.{CertificateShortfall}
use Rattle.it_certificate.specs.declared.shortfall.CertificateShortfall.TheVariants as unread
use Rattle.it_certificate.specs.declared.shortfall.ExtensionsShortfall.{ExtensionsShortfall}
use Rattle.it_certificate.specs.declared.shortfall.ExtensionsShortfall.TheVariants as listed
use Rattle.it_issued.specs.declared.shortfall.IssueShortfall.{IssueShortfall}
use Rattle.it_issued.specs.declared.shortfall.IssueShortfall.TheVariants as issues
use Rattle.it_issued.specs.declared.shortfall.LogShortfall.{LogShortfall}
use Rattle.it_issued.specs.declared.shortfall.LogShortfall.TheVariants as logs
use Rattle.it_log_entry.specs.declared.body_shortfall.BodyShortfall.{BodyShortfall}
use Rattle.it_log_entry.specs.declared.body_shortfall.BodyShortfall.TheVariants as bodies
use Rattle.it_log_entry.specs.declared.note_shortfall.NoteShortfall.{NoteShortfall}
use Rattle.it_log_entry.specs.declared.note_shortfall.NoteShortfall.TheVariants as checkpoints
use Rattle.it_log_entry.specs.declared.shortfall.EntryShortfall.{EntryShortfall}
use Rattle.it_log_entry.specs.declared.shortfall.EntryShortfall.TheVariants as entries
use Rattle.it_vouches.specs.declared.issuer_shortfall.IssuerShortfall.{IssuerShortfall}
use Rattle.it_vouches.specs.declared.issuer_shortfall.IssuerShortfall.TheVariants.{Issue, Log}
use Rattle.it_vouches.specs.declared.shortfall.Shortfall.{Shortfall}
use Rattle.it_vouches.specs.declared.shortfall.Shortfall.TheVariants as shortfalls

-- why it has no certificate
abbrev pub certificate_phrase_of : NoCertificate → List ℕ
certificate_phrase_of reasons.PublicKey = codes "it is signed by a public key, not by a certificate"
certificate_phrase_of reasons.Missing = codes "it has no certificate"
certificate_phrase_of reasons.TwoForms = codes "it has both a certificate and a chain"
certificate_phrase_of reasons.Chain =
    codes "bundles of version 0.3 have one certificate, not a chain"
certificate_phrase_of reasons.Unreadable = codes "its certificate is empty, or not in base64"

-- why the extensions of a certificate are not read
abbrev pub extensions_reason_of : ExtensionsShortfall → List ℕ
extensions_reason_of listed.Form = codes "its extensions have another form"
extensions_reason_of listed.NameConstraints = codes "it constrains names"
extensions_reason_of listed.Critical = codes "a critical extension of it is not known"
extensions_reason_of listed.Twice = codes "it has an extension twice"
extensions_reason_of listed.Values =
    codes "its usage, constraints or purposes have another form"

-- why a certificate is not read
abbrev pub unread_reason_of : CertificateShortfall → List ℕ
unread_reason_of unread.Parts = codes "it does not have the parts of one of version 3"
unread_reason_of unread.Algorithm = codes "its signature has another algorithm"
unread_reason_of unread.Validity = codes "its validity has another form"
unread_reason_of unread.Key = codes "its key is of another kind or form"
unread_reason_of (unread.Extensions missed) = extensions_reason_of missed

-- the same of its certificate
abbrev pub unread_phrase_of : CertificateShortfall → List ℕ
unread_phrase_of missed = codes "its certificate is not read: " ++ unread_reason_of missed

-- why its certificate is no leaf
abbrev pub leaf_phrase_of : LeafShortfall → List ℕ
leaf_phrase_of (leaves.Certificate missed) = unread_phrase_of missed
leaf_phrase_of leaves.Key = codes "its certificate has a key of another curve"
leaf_phrase_of leaves.Usage = codes "its certificate is not for signatures"
leaf_phrase_of leaves.Purpose = codes "its certificate is not for code signing"
leaf_phrase_of leaves.Authority = codes "its certificate is that of an authority"
leaf_phrase_of leaves.Name =
    codes "its certificate does not have exactly one name of a URI, an address or Fulcio's own kind"
leaf_phrase_of leaves.Issuer = codes "its certificate does not name one issuer"

-- why the body of its entry is not about its signature
abbrev pub body_phrase_of : BodyShortfall → List ℕ
body_phrase_of bodies.Form = codes "its entry's body does not read"
body_phrase_of bodies.Payload = codes "its entry is not about its payload"
body_phrase_of bodies.PayloadType = codes "its entry is not about its payload type"
body_phrase_of bodies.Signature = codes "its entry is not about its signature"
body_phrase_of bodies.Certificate = codes "its entry is not about its certificate"

-- what the checkpoint of its proof lacks
abbrev pub checkpoint_phrase_of : NoteShortfall → List ℕ
checkpoint_phrase_of checkpoints.Form = codes "the checkpoint of its inclusion proof does not read"
checkpoint_phrase_of checkpoints.Root =
    codes "the checkpoint of its inclusion proof is not of its root and size"
checkpoint_phrase_of checkpoints.Signature =
    codes "the log did not sign the checkpoint of its inclusion proof"

-- why no log vouches by an entry
abbrev pub entry_phrase_of : EntryShortfall → List ℕ
entry_phrase_of entries.Log = codes "its entry is of no log of the trusted root that is used"
entry_phrase_of entries.Time = codes "its entry is from a time at which its log was not trusted"
entry_phrase_of entries.Kind =
    codes "its entry is of another kind than dsse 0.0.1 and intoto 0.0.2"
entry_phrase_of (entries.Body part) = body_phrase_of part
entry_phrase_of entries.NoProof = codes "its entry has no inclusion proof"
entry_phrase_of entries.Inclusion = codes "its inclusion proof does not lead to its root"
entry_phrase_of (entries.Checkpoint missed) = checkpoint_phrase_of missed
entry_phrase_of entries.Promise = codes "the log did not sign its entry's time"

-- why no authority issued the certificate
abbrev pub issue_phrase_of : IssueShortfall → List ℕ
issue_phrase_of issues.Name =
    codes "no authority that is used has the name of the certificate's issuer"
issue_phrase_of issues.Window =
    codes "the certificate's issuer was not trusted at the time of its entry"
issue_phrase_of issues.LeafTime = codes "the certificate was not valid at the time of its entry"
issue_phrase_of issues.AuthorityTime =
    codes "a certificate of the certificate's issuer was not valid at the time of its entry"
issue_phrase_of issues.Signature =
    codes "the certificate is not signed by its issuer with the digest for the issuer's key"

-- why no certificate log promised to log it
abbrev pub log_phrase_of : LogShortfall → List ℕ
log_phrase_of logs.Missing = codes "the certificate has no timestamp of a certificate log"
log_phrase_of logs.Form = codes "its timestamps do not read"
log_phrase_of logs.Log = codes "none of its timestamps is of a log of the trusted root that is used"
log_phrase_of logs.Window =
    codes "its timestamp is from a time at which its log was not trusted"
log_phrase_of logs.Signature = codes "its log did not sign the certificate's timestamp"

abbrev pub issuer_phrase_of : IssuerShortfall → List ℕ
issuer_phrase_of (Issue missed) = issue_phrase_of missed
issuer_phrase_of (Log missed) = log_phrase_of missed

-- the end of a sentence about the bundle
abbrev pub phrase_of : Shortfall → List ℕ
phrase_of (shortfalls.Signatures count) =
    codes "its envelope has " ++ decimal count
    ++ codes " signatures, and a bundle's must have one"
phrase_of shortfalls.Material = codes "it has no verificationMaterial"
phrase_of (shortfalls.Certificate reason) = certificate_phrase_of reason
phrase_of shortfalls.NoEntry = codes "it has no entry of a transparency log"
phrase_of shortfalls.ManyEntries = codes "it has more than 8 entries"
phrase_of (shortfalls.Leaf missed) = leaf_phrase_of missed
phrase_of shortfalls.Identity =
    codes "its certificate's name or issuer is empty or has more than 512 bytes"
phrase_of shortfalls.Entry = codes "its entry has a member that is missing or of another form"
phrase_of (shortfalls.Log missed) = entry_phrase_of missed
phrase_of (shortfalls.Issuer missed) = issuer_phrase_of missed
phrase_of shortfalls.Signature = codes "the certificate's key did not sign the envelope"
