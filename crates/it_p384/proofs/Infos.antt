-- A key from its SubjectPublicKeyInfo.
use Rattle.std.proofs.Common.{◌≡◌, ℕ, ◌+◌, ◌-◌, ◌*◌, ◌^◌, ◌<◌, ◌≤◌, ◌++◌, Bool, true, false, not, nat_eq, Option, Some, None, MatchOption, List, [], take, drop, length, get_or, refl, sym, ap, ◌∙◌, arith}
use Rattle.std.proofs.lemmas.Bool.Decides.{Decides-eqb}
use Rattle.std.specs.Cmp.Lexicographic.{pointwise}
use Rattle.std.proofs.lemmas.Slice.Eq.{slice_eq-Decides}
use Rattle.std.proofs.lemmas.List.{take_all, length-drop, length-append, take-append-drop, take-append-le, drop-append-le, drop_all}
use Rattle.it_numbers.specs.Bytes.{big, big_bytes}
use Rattle.it_numbers.proofs.Big.{length-big_bytes, big-bytes, bytes-big}
use Rattle.it_p384_field.specs.Prime.{prime, times_mod}
use Rattle.it_p384_point.specs.Curve.{right_side, is_on_curve}
use Rattle.it_p384.specs.Key.{Key, IsKey, info_of, info_prefix}
use Rattle.it_p384.proofs.Tests.{same_test, clash, not_false}

-- what stands after the prefix is 96 bytes
pub after_prefix : (info prefix slice : List ℕ) (t : Bool) → length info ≡ 120 → slice ≡ prefix
    → t ≡ not (pointwise nat_eq (take 24 info) slice) → t ≡ false
    → (length (take (length info - 24) (drop 24 info)) ≡ 96) × (info ≡ prefix ++ take (length info - 24) (drop 24 info))
after_prefix info prefix slice t long at e h =
    let all : take (length info - 24) (drop 24 info) ≡ drop 24 info = take_all (length info - 24) (drop 24 info) (omega (arith, length-drop 24 info)) in
    let test : pointwise nat_eq (take 24 info) slice ≡ true = not_false (pointwise nat_eq (take 24 info) slice) (sym e ∙ h) in
    let front : take 24 info ≡ prefix = (slice_eq-Decides Decides-eqb (take 24 info) slice (pointwise nat_eq (take 24 info) slice) refl).0 test ∙ at in (
      ap length all ∙ length-drop 24 info ∙ (let last : length info - 24 ≡ 96 = omega arith in last),
      sym (take-append-drop 24 info) ∙ ap (λ (l : List ℕ). l ++ drop 24 info) front ∙ ap (λ (l : List ℕ). prefix ++ l) (sym all),
    )

-- the bytes of a coordinate below the prime are read as the coordinate
coordinate_read : (x : ℕ) (bytes : List ℕ) → x < prime → bytes ≡ big_bytes 48 x → big bytes ≡ x
coordinate_read x bytes below e =
    let fits : x < 2 ^ (8 * 48) = omega arith in
    ap big e ∙ big-bytes 48 x fits

pub not_below : (x : ℕ) (bytes : List ℕ) → x < prime → bytes ≡ big_bytes 48 x → prime ≤ big bytes → ⊥
not_below x bytes below e h =
    let is : big bytes ≡ x = coordinate_read x bytes below e in
    omega arith

pub not_on_curve : (key : Key) (x y : ℕ) (xs ys : List ℕ) (t : Bool) → x ≡ big xs → y ≡ big ys → t ≡ is_on_curve x y → t ≡ false
    → IsKey key → xs ≡ big_bytes 48 key.x → ys ≡ big_bytes 48 key.y → ⊥
not_on_curve key x y xs ys t ex ey et h good hx hy =
    let ax : x ≡ key.x = ex ∙ coordinate_read key.x xs good.x_below hx in
    let ay : y ≡ key.y = ey ∙ coordinate_read key.y ys good.y_below hy in
    let on : t ≡ is_on_curve key.x key.y = et ∙ ap (λ (k : ℕ). is_on_curve k y) ax ∙ ap (is_on_curve key.x) ay in
    let yes : t ≡ true = same_test (times_mod key.y key.y) (right_side key.x) t on good.on_curve in
    let no : false ≡ true = clash t yes h in
    cc

pub coordinate_bytes : (x : ℕ) (bytes : List ℕ) → length bytes ≡ 48 → ((k : ℕ) → get_or bytes k 0 < 256) → x ≡ big bytes → bytes ≡ big_bytes 48 x
coordinate_bytes x bytes long small e =
    sym (bytes-big bytes small) ∙ ap (λ (k : ℕ). big_bytes k (big bytes)) long ∙ ap (big_bytes 48) (sym e)

pub both_long : (key : Key) → length (big_bytes 48 key.x ++ big_bytes 48 key.y) ≡ 96
both_long key =
    let first : length (big_bytes 48 key.x) ≡ 48 = length-big_bytes 48 key.x in
    let second : length (big_bytes 48 key.y) ≡ 48 = length-big_bytes 48 key.y in
    length-append (big_bytes 48 key.x) (big_bytes 48 key.y) ∙ (let both : length (big_bytes 48 key.x) + length (big_bytes 48 key.y) ≡ 96 = omega arith in both)

halves : (xs ys zs : List ℕ) → length xs ≡ 48 → zs ≡ xs ++ ys → (take 48 zs ≡ xs) × (drop 48 zs ≡ ys)
halves xs ys zs long e =
    let at : drop 48 (xs ++ ys) ≡ drop 48 xs ++ ys = drop-append-le 48 xs ys (omega arith) in
    let none : drop 48 xs ≡ [] = drop_all 48 xs (omega arith) in (
      ap (take 48) e ∙ take-append-le 48 xs ys (omega arith) ∙ take_all 48 xs (omega arith),
      ap (drop 48) e ∙ at ∙ ap (λ (l : List ℕ). l ++ ys) none,
    )

pub info_read : (info bytes : List ℕ) (r : Option Key) → length bytes ≡ 96 → info ≡ info_prefix ++ bytes
    → MatchOption r
    ((key : Key) → IsKey key → take 48 bytes ≡ big_bytes 48 key.x → take (length bytes - 48) (drop 48 bytes) ≡ big_bytes 48 key.y → ⊥)
    (λ key. IsKey key × (take 48 bytes ≡ big_bytes 48 key.x) × (take (length bytes - 48) (drop 48 bytes) ≡ big_bytes 48 key.y))
    → MatchOption r ((key : Key) → IsKey key → info ≡ info_of key → ⊥) (λ key. IsKey key × (info ≡ info_of key))
info_read info bytes None long e h = λ key good f.
    let same : bytes ≡ big_bytes 48 key.x ++ big_bytes 48 key.y = ap (drop 24) (sym e ∙ f) in
    let parts = halves (big_bytes 48 key.x) (big_bytes 48 key.y) bytes (length-big_bytes 48 key.x) same in
    let rest : take (length bytes - 48) (drop 48 bytes) ≡ drop 48 bytes = take_all (length bytes - 48) (drop 48 bytes) (omega (arith, length-drop 48 bytes)) in
    h key good parts.0 (rest ∙ parts.1)
info_read info bytes (Some key) long e h =
    let rest : take (length bytes - 48) (drop 48 bytes) ≡ drop 48 bytes = take_all (length bytes - 48) (drop 48 bytes) (omega (arith, length-drop 48 bytes)) in
    let whole : bytes ≡ big_bytes 48 key.x ++ big_bytes 48 key.y =
    sym (take-append-drop 48 bytes) ∙ ap (λ (l : List ℕ). l ++ drop 48 bytes) h.1
    ∙ ap (λ (l : List ℕ). big_bytes 48 key.x ++ l) (sym rest ∙ h.2) in
    (h.0, e ∙ ap (λ (l : List ℕ). info_prefix ++ l) whole)

pub same_key : (key other : Key) → IsKey key → IsKey other → info_of key ≡ info_of other → key ≡ other
same_key key other good fine e =
    let same : big_bytes 48 key.x ++ big_bytes 48 key.y ≡ big_bytes 48 other.x ++ big_bytes 48 other.y = ap (drop 24) e in
    let parts = halves (big_bytes 48 other.x) (big_bytes 48 other.y) (big_bytes 48 key.x ++ big_bytes 48 key.y) (length-big_bytes 48 other.x) same in
    let own = halves (big_bytes 48 key.x) (big_bytes 48 key.y) (big_bytes 48 key.x ++ big_bytes 48 key.y) (length-big_bytes 48 key.x) refl in
    let ex : key.x ≡ other.x =
    sym (coordinate_read key.x (big_bytes 48 key.x) good.x_below refl) ∙ ap big (sym own.0 ∙ parts.0) ∙ coordinate_read other.x (big_bytes 48 other.x) fine.x_below refl in
    let ey : key.y ≡ other.y =
    sym (coordinate_read key.y (big_bytes 48 key.y) good.y_below refl) ∙ ap big (sym own.1 ∙ parts.1) ∙ coordinate_read other.y (big_bytes 48 other.y) fine.y_below refl in
    let all : key ≡ other = λ i. record { x = ex i; y = ey i } in
    all
