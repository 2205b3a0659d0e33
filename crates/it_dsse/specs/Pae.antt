-- The pre-authentication encoding (DSSE v1.0, "Protocol").
use Rattle.std.specs.Prelude.{ℕ, List, [], ◌∷◌, ◌++◌, length, codes, decimal}

-- a space
abbrev pub space : List ℕ
space = 32 ∷ []

-- what is signed for a body of a type: PAE(type, body); lengths are in bytes
unfoldable pub pae_of : List ℕ → List ℕ → List ℕ
pae_of kind body =
    codes "DSSEv1" ++ space ++ decimal (length kind) ++ space ++ kind
    ++ space ++ decimal (length body) ++ space ++ body
