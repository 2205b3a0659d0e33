-- Which extensions a certificate may have.
use Rattle.std.specs.Prelude.{◌≡◌, Bool, ◌||◌, not, true, List, map, None}
use Rattle.std.specs.List.{IsDistinct, list_all}
use Rattle.std.specs.Str.{bytes_eq}
use Rattle.it_certificate.specs.Extension.{Stated}
use Rattle.it_certificate.specs.Identifiers.{is_known, name_constraints}
use Rattle.it_certificate.specs.Values.{value_of}

abbrev pub is_known_if_critical : Stated → Bool
is_known_if_critical e = not e.critical || is_known e.id

-- no two have one identifier; each critical one is known (RFC 5280, section 4.2); and none
-- constrains names (this profile's choice)
pub record ArePermitted (extensions : List Stated) : Type 0 where
  pub distinct : IsDistinct bytes_eq (map (λ e. e.id) extensions)
  pub known : list_all is_known_if_critical extensions ≡ true
  pub unconstrained : value_of name_constraints extensions ≡ None
