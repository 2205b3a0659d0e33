-- What is said of findings on key objects that describe identities, or are meant to (this project's
-- words).
use Rattle.std.specs.Prelude.{ℕ, List, codes}
use Rattle.it_findings.specs.KeyPlaces.{id_of}
use Rattle.it_findings.specs.declared.place.KeyPlace.{KeyPlace}
use Rattle.it_check.specs.Pieces.{told_form}

-- what comes of an identity
abbrev pub identity_end : List ℕ
identity_end =
    codes " is an identity, whose signatures count only where a bundle in the provenance has them"

abbrev pub identity_sentence : KeyPlace → List ℕ
identity_sentence key = told_form (codes "the key of ") (id_of key) identity_end

-- what comes of a key object that is incomplete
abbrev pub incomplete_end : List ℕ
incomplete_end =
    codes " lacks an identity or an issuer of 1 to 512 bytes, so that no signature counts for it"

abbrev pub incomplete_sentence : KeyPlace → List ℕ
incomplete_sentence key = told_form (codes "the key object of ") (id_of key) incomplete_end
