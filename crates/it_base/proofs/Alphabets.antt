-- A text in the standard alphabet of base64 has no mark of the other one.
use Rattle.std.proofs.Common.{◌≡◌, ℕ, zero, suc, ◌/◌, ◌%◌, ◌*◌, ◌+◌, List, [], ◌∷◌, Bool, true}
use Rattle.std.proofs.Common.{false, not, length, replicate, slice_index, Result, Ok, Err, Some}
use Rattle.std.proofs.Common.{IfOk, String, string_bytes, refl, ap, ◌∙◌, inl, inr}
use Rattle.std.proofs.lemmas.Bool.{cases_lt, not-true}
use Rattle.std.proofs.lemmas.List.{get_or_past}
use Rattle.std.proofs.lemmas.List.Folds.{list_any-append}
use Rattle.std.specs.List.{list_any}
use Rattle.std.specs.declared.alloc.AllocError.{AllocError}
use Rattle.std.specs.declared.alloc.Global.{Global}
use Rattle.std.specs.declared.vec.Vec.{Vec}
use Rattle.base64.specs.declared.decode.DecodeAllocError.{DecodeAllocError}
use Rattle.base64.proofs.Tables.{all_below_at}
use Rattle.base64.specs.Engines.{standard}
use Rattle.base64.specs.GeneralPurpose.{decoded_of, encode_of}
use Rattle.base64.specs.Rfc4648.{encode_symbols, padding_len}
use Rattle.base64.specs.Tables.{all_below}
use Rattle.it_base.specs.Base64Text.{base64_decoded, base64_encoded, is_url_mark}

none_of_symbols : (p : ℕ → Bool) (table : List ℕ)
    → ((place : ℕ) → p (slice_index table place) ≡ false) → (bytes : List ℕ)
    → list_any p (encode_symbols table bytes) ≡ false
unfolding encode_symbols
none_of_symbols p table none [] = refl
none_of_symbols p table none (a ∷ []) = rw (none (a / 4), none (a % 4 * 16)) refl
none_of_symbols p table none (a ∷ b ∷ []) =
    rw (none (a / 4), none (a % 4 * 16 + b / 16), none (b % 16 * 4)) refl
none_of_symbols p table none (a ∷ b ∷ c ∷ rest) =
    rw (none (a / 4), none (a % 4 * 16 + b / 16), none (b % 16 * 4 + c / 64), none (c % 64))
    (none_of_symbols p table none rest)

none_of_copies : (p : ℕ → Bool) (n x : ℕ) → p x ≡ false → list_any p (replicate n x) ≡ false
none_of_copies p zero x none = refl
none_of_copies p (suc n) x none = rw none (none_of_copies p n x none)

abbrev is_plain : ℕ → Bool
is_plain place = not (is_url_mark (slice_index standard.encode_table place))

plain_below : all_below is_plain 64 ≡ true
plain_below = refl

plain : (place : ℕ) → is_url_mark (slice_index standard.encode_table place) ≡ false
plain place = elim (cases_lt place 64) [
  | inl below ↦ not-true _ (all_below_at is_plain 64 place plain_below below)
  | inr past ↦ ap is_url_mark (get_or_past standard.encode_table place 0 past)
]

no_mark : (bytes : List ℕ) → list_any is_url_mark (base64_encoded bytes) ≡ false
unfolding base64_encoded
no_mark bytes =
    list_any-append is_url_mark (encode_symbols standard.encode_table bytes)
    (replicate (padding_len (length bytes)) 61)
    ∙ rw (none_of_symbols is_url_mark standard.encode_table plain bytes)
    (none_of_copies is_url_mark (padding_len (length bytes)) 61 refl)

-- a text that the standard alphabet decodes reads back
pub reads_back : (bytes : List ℕ) (result : Result (String Global) AllocError)
    → IfOk result (λ text. string_bytes text ≡ base64_encoded bytes)
    → IfOk result (λ text. decoded_of standard (string_bytes text) ≡ Some bytes)
    → IfOk result (λ text. base64_decoded (string_bytes text) ≡ Some bytes)
unfolding base64_decoded
reads_back bytes (Ok text) is decodes = rw (is, no_mark bytes, ← is) decodes
reads_back bytes (Err e) is decodes = tt

-- a text that the standard alphabet writes has no mark of the other one
pub unmarked : (text : List ℕ) (result : Result (Vec ℕ Global) DecodeAllocError)
    → IfOk result (λ bytes. text ≡ encode_of standard bytes.items)
    → IfOk result (λ bytes. list_any is_url_mark text ≡ false)
unfolding base64_encoded
unmarked text (Ok bytes) is = rw is (no_mark bytes.items)
unmarked text (Err e) is = tt
