-- What is said of findings on members (this project's words).
use Rattle.std.specs.Prelude.{ℕ, List, [], ◌++◌, Option, Some, None, codes}
use Rattle.it_findings.specs.KeyPlaces.{id_of}
use Rattle.it_findings.specs.MeantName.{meant_name}
use Rattle.it_findings.specs.declared.member_finding.MemberFinding.{MemberFinding}
use Rattle.it_findings.specs.declared.member_finding.MemberFinding.TheVariants.{PrivateKey}
use Rattle.it_findings.specs.declared.member_finding.MemberFinding.TheVariants.{Repeated}
use Rattle.it_findings.specs.declared.member_finding.MemberFinding.TheVariants.{Unread}
use Rattle.it_findings.specs.declared.place.Place.{Place}
use Rattle.it_check.specs.Pieces.{told_form}

-- the name of the member that may be meant, if there is one
abbrev pub meant_form : Option (List ℕ) → List ℕ
meant_form None = []
meant_form (Some near) = told_form (codes "; did you mean ") near (codes "?")

-- a member of this name, at a place, is not looked at
unfoldable pub unread_sentence : Place → List ℕ → List ℕ
unread_sentence place name =
    told_form (codes "the member ") name (codes " is not looked at")
    ++ meant_form (meant_name place name)

abbrev pub member_sentence : MemberFinding → List ℕ
member_sentence (Repeated root member) =
    told_form (codes "the member ") member.name
    (codes " comes more than once, and the last one counts")
member_sentence (Unread place name) = unread_sentence place name
member_sentence (PrivateKey key) =
    told_form (codes "the key object of ") (id_of key) (codes " has a private key")
