-- What is said of the authorities of a trusted root (this project's words).
use Rattle.std.specs.Prelude.{◌≡◌, ℕ, Bool, true, false, Option, Some, None, List, [], ◌++◌}
use Rattle.std.specs.Prelude.{codes, decimal, if◌then◌else◌}
use Rattle.std.specs.List.{AllZip, enumerate_from, flat_map, list_any}
use Rattle.it_certificate.specs.declared.issuing.IssuingShortfall.{IssuingShortfall}
use Rattle.it_certificate.specs.declared.issuing.IssuingShortfall.TheVariants as barred
use Rattle.it_root_notes.specs.AuthorityMisses.{IsAuthorityShortfall}
use Rattle.it_root_notes.specs.Front.{front_text, none_used_text}
use Rattle.it_root_notes.specs.declared.shortfall.AuthorityShortfall.{AuthorityShortfall}
use Rattle.it_root_notes.specs.declared.shortfall.AuthorityShortfall.TheVariants.{Unread, Chain}
use Rattle.it_root_notes.specs.declared.shortfall.ChainShortfall.{ChainShortfall}
use Rattle.it_root_notes.specs.declared.shortfall.ChainShortfall.TheVariants.{Empty, OtherIssuer}
use Rattle.it_root_notes.specs.declared.shortfall.ChainShortfall.TheVariants.{MayNotIssue, Unsigned}
use Rattle.it_trust_root.specs.declared.root.TrustedRoot.{TrustedRoot}
use Rattle.it_vouches.specs.Phrases.{unread_reason_of}

-- a certificate by its place, counted from 0, and what is said of it
abbrev pub certificate_text : ℕ → List ℕ → List ℕ
certificate_text place after = codes "its certificate " ++ decimal place ++ after

-- why a certificate may not issue others
abbrev pub barred_text : IssuingShortfall → List ℕ
barred_text barred.Authority = codes " is not that of an authority"
barred_text barred.Length = codes " allows fewer certificates below it"
barred_text barred.Usage = codes " is not for signing certificates"
barred_text barred.Purpose = codes " is not for code signing"

-- what its certificates miss
abbrev pub chain_phrase_of : ChainShortfall → List ℕ
chain_phrase_of Empty = codes "it has no certificate"
chain_phrase_of (OtherIssuer place) =
    certificate_text place (codes " has another issuer than the next one's subject")
chain_phrase_of (MayNotIssue place reason) = certificate_text place (barred_text reason)
chain_phrase_of (Unsigned place) =
    certificate_text place
    (codes " is not signed by the next one with the digest for that one's key")

-- why an authority is not used
abbrev pub phrase_of : AuthorityShortfall → List ℕ
phrase_of (Unread place reason) =
    certificate_text place (codes " is not read: " ++ unread_reason_of reason)
phrase_of (Chain missed) = chain_phrase_of missed

-- the line of a note on an authority that is not used
unfoldable pub unusable_text : ℕ → AuthorityShortfall → List ℕ
unusable_text place missed =
    front_text (codes "certificateAuthorities") place ++ phrase_of missed ++ codes "\n"

-- the same of any authority, by its place and what it misses, of which there is no note where it
-- misses nothing
abbrev pub authority_text : ℕ × Option AuthorityShortfall → List ℕ
authority_text (place, None) = []
authority_text (place, Some missed) = unusable_text place missed

-- the lines on authorities, by what each misses, in their order
abbrev pub authority_lines : List (Option AuthorityShortfall) → List ℕ
authority_lines shortfalls = flat_map authority_text (enumerate_from 0 shortfalls)

-- an authority that misses nothing is used
abbrev pub is_usable : Option AuthorityShortfall → Bool
is_usable None = true
is_usable (Some missed) = false

-- the lines, and that no authority is used where that is so
abbrev pub authority_notes : List (Option AuthorityShortfall) → List ℕ
authority_notes shortfalls =
    authority_lines shortfalls
    ++ (if list_any is_usable shortfalls then []
    else none_used_text (codes "certificateAuthorities"))

-- the notes on the authorities of a trusted root, by what each of them misses
pub record AreAuthorityNotes (root : TrustedRoot) (text : List ℕ) : Type 0 where
  pub shortfalls : List (Option AuthorityShortfall)
  pub are : AllZip IsAuthorityShortfall root.authorities shortfalls
  pub text_is : text ≡ authority_notes shortfalls
