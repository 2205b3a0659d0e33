-- Signatures of different keys with one nonce, as lines (this project's words).
use Rattle.std.specs.Prelude.{ℕ, List, [], ◌∷◌, ◌++◌, length, take, codes}
use Rattle.std.specs.List.{flat_map}
use Rattle.it_check.specs.FindingLine.{line_form, more_form}
use Rattle.it_check.specs.Pieces.{told_form}
use Rattle.it_nonces.specs.declared.shared.SharedNonce.{SharedNonce}
use Rattle.it_nonces.specs.declared.signer.Role.{Role}
use Rattle.it_nonces.specs.declared.signer.Role.TheVariants.{Functionary, Owner}
use Rattle.it_nonces.specs.declared.signer.Signer.{Signer}
use Rattle.it_strict.specs.BelowText.{below_document}

-- the layout at a place, as a document
unfoldable pub layout_form : List (List ℕ × List ℕ) → List ℕ
layout_form [] = codes "layout"
layout_form (place ∷ at) = below_document (place ∷ at)

-- a functionary, by the key id and the step
unfoldable pub functionary_form : List ℕ → List (List ℕ × List ℕ) → List ℕ → List ℕ
functionary_form id at step =
    told_form (codes "key ") id (codes " for step ") ++ told_form (codes "") step (codes " of the ")
    ++ layout_form at

-- who signed what
unfoldable pub signed_form : List ℕ → Role → List ℕ
signed_form id Owner = told_form (codes "owner ") id (codes " on the layout")
signed_form id (Functionary at step) = functionary_form id at step

abbrev pub signer_form : Signer → List ℕ
signer_form signer = signed_form signer.id signer.role

-- what is said of two keys that signed with one nonce
unfoldable pub nonce_sentence : SharedNonce → List ℕ
nonce_sentence shared =
    codes "two keys signed with one nonce: " ++ signer_form shared.first ++ codes ", and "
    ++ signer_form shared.signer

-- the document that lists the keys of those who sign in a role, the sublayouts down to it, and
-- their place in it as a JSON pointer
unfoldable pub keys_document : Role → List ℕ
keys_document Owner = codes "policy"
keys_document (Functionary at step) = codes "layout"

unfoldable pub keys_at : Role → List (List ℕ × List ℕ)
keys_at Owner = []
keys_at (Functionary at step) = at

unfoldable pub keys_pointer : Role → List ℕ
keys_pointer Owner = codes "/owners"
keys_pointer (Functionary at step) = codes "/keys"

-- how lines name this document
unfoldable pub document_form : Role → List ℕ
document_form Owner = codes "policy"
document_form (Functionary at step) = layout_form at

-- the line of two such keys, at the keys of the one that comes later
abbrev pub nonce_line : SharedNonce → List ℕ
nonce_line shared =
    line_form (document_form shared.signer.role) (codes "shared-nonce")
    (keys_pointer shared.signer.role) (nonce_sentence shared)

-- the lines of the first 40, and how many there are where there are more
unfoldable pub nonces_text : List SharedNonce → List ℕ
nonces_text shared =
    flat_map nonce_line (take 40 shared) ++ more_form (codes "shared nonces") (length shared)
