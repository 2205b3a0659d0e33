-- The identifiers of the extensions that are read, as the contents of their elements (RFC 5280,
-- section 4.2.1; RFC 6962, section 3.3; and those of Fulcio).
use Rattle.std.specs.Prelude.{ℕ, Bool, ◌||◌, List, [], ◌∷◌}
use Rattle.std.specs.Str.{bytes_eq}

-- 2.5.29.15, 2.5.29.17, 2.5.29.19, 2.5.29.30 and 2.5.29.37
abbrev pub key_usage : List ℕ
key_usage = 85 ∷ 29 ∷ 15 ∷ []

abbrev pub subject_name : List ℕ
subject_name = 85 ∷ 29 ∷ 17 ∷ []

abbrev pub basic_constraints : List ℕ
basic_constraints = 85 ∷ 29 ∷ 19 ∷ []

abbrev pub name_constraints : List ℕ
name_constraints = 85 ∷ 29 ∷ 30 ∷ []

abbrev pub extended_key_usage : List ℕ
extended_key_usage = 85 ∷ 29 ∷ 37 ∷ []

-- 1.3.6.1.4.1.57264.1.1 and 1.3.6.1.4.1.57264.1.8: the issuer of an identity, in its old and its
-- new form
abbrev pub old_issuer : List ℕ
old_issuer = 43 ∷ 6 ∷ 1 ∷ 4 ∷ 1 ∷ 131 ∷ 191 ∷ 48 ∷ 1 ∷ 1 ∷ []

abbrev pub new_issuer : List ℕ
new_issuer = 43 ∷ 6 ∷ 1 ∷ 4 ∷ 1 ∷ 131 ∷ 191 ∷ 48 ∷ 1 ∷ 8 ∷ []

-- 1.3.6.1.4.1.11129.2.4.2: the timestamps of certificate logs
abbrev pub timestamps : List ℕ
timestamps = 43 ∷ 6 ∷ 1 ∷ 4 ∷ 1 ∷ 214 ∷ 121 ∷ 2 ∷ 4 ∷ 2 ∷ []

-- those that may be critical
abbrev pub is_known : List ℕ → Bool
is_known id = bytes_eq id key_usage
    || (bytes_eq id subject_name
    || (bytes_eq id basic_constraints || bytes_eq id extended_key_usage))
