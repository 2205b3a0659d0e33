-- The check of public keys knows an object that describes one, whatever stands before it.
use Rattle.std.proofs.Common.{◌≡◌, ◌∙◌, ℕ, suc, List, [], ◌∷◌, ◌++◌, true, Option, Some}
use Rattle.std.proofs.Common.{None, map, option_map, ap, refl, sym}
use Rattle.it_dsse.specs.Check.{Check}
use Rattle.it_dsse.specs.Panel.{KeyNumber, key_at, key_from, panel_of}
use Rattle.it_dsse.specs.Ring.{ring_check}
use Rattle.it_dsse.specs.declared.key_object.KeyObject.{KeyObject}
use Rattle.it_dsse.specs.declared.ring_entry.RingEntry.{RingEntry}
use Rattle.it_public_keys.specs.DecodedKeys.{key_in}
use Rattle.it_public_keys.specs.NamedKeys.{number_of, public_key_check}
use Rattle.it_public_keys.specs.OwnChecks.{own_checks}
use Rattle.it_public_keys.proofs.Described.{decoded_is_described}
use Rattle.it_key_notes.specs.Reasons.{IsPublic}
use Rattle.it_key_notes.specs.UnknownKeys.{IsUnknown}
use Rattle.it_key_notes.specs.declared.unknown_key.UnknownKey.{UnknownKey}

-- where a panel knows no key, its last check does not
none_at : (place : ℕ) (found : Option ℕ) (later : Option KeyNumber) → key_at place found later ≡ None
    → (found ≡ None) × (later ≡ None)
none_at place None later e = (refl, e)
none_at place (Some n) later e = cc

last_knows_none : (place : ℕ) (before : List Check) (last : Check) (id : List ℕ) (object : KeyObject)
    → key_from place (before ++ last ∷ []) id object ≡ None → last.key_of id object ≡ None
last_knows_none place [] last id object e = (none_at place (last.key_of id object) None e).0
last_knows_none place (check ∷ checks) last id object e =
    last_knows_none (suc place) checks last id object
    (none_at place (check.key_of id object)
    (key_from (suc place) (checks ++ last ∷ []) id object) e).1

pub asked_known : (rings : List (List RingEntry)) (id : List ℕ) (object : KeyObject)
    (note : UnknownKey) → IsPublic object
    → ¬ IsUnknown (panel_of (own_checks rings true)) id object note
asked_known rings id object note public unknown =
    let none : public_key_check.key_of id object ≡ None =
    last_knows_none 0 (map ring_check rings) public_key_check id object unknown.unknown in
    let there : key_in object ≡ Some public.key =
    (decoded_is_described object public.key).1 (public.is_key, public.described) in
    let clash : Some (number_of public.key) ≡ None = sym (ap (option_map number_of) there) ∙ none in
    cc
