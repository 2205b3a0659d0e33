-- The keys that bytes encode.
use Rattle.std.proofs.Common.{◌≡◌, ◌∙◌, ℕ, ◌+◌, ◌-◌, ◌*◌, ◌%◌, ◌^◌, ◌<◌, ◌≤◌, ◌&&◌, List, ◌∷◌}
use Rattle.std.proofs.Common.{◌++◌, Bool, true, false, not, Option, Some, None, option_map, unwrap_or}
use Rattle.std.proofs.Common.{arith, ap, length, take, drop, get_or, nat_eq, nat_lt, nat_le, refl}
use Rattle.std.specs.Str.{bytes_eq}
use Rattle.std.proofs.lemmas.Bool.{ltb-true, leb-true}
use Rattle.std.proofs.lemmas.Bool.Decides.{Decides-eqb, nat_tests}
use Rattle.std.proofs.lemmas.List.{take_all, drop_all, take-append-le, drop-append-le}
use Rattle.std.proofs.lemmas.Option.{same_Some}
use Rattle.std.proofs.lemmas.Slice.Eq.{bytes_eq-Decides}
use Rattle.it_numbers.specs.Bytes.{big, big_bytes}
use Rattle.it_numbers.proofs.Big.{big-bytes, length-big_bytes}
use Rattle.it_ed_point.specs.Encoding.{decoded}
use Rattle.it_ed_point.specs.declared.point.Point.{Point}
use Rattle.it_ed25519.specs.PublicKey.{IsPublicKey, is_small_order}
use Rattle.it_p256_field.specs.Prime.{prime, times_mod}
use Rattle.it_p256_point.specs.Curve.{right_side, is_on_curve}
use Rattle.it_p256.specs.Key.{Key as P256Key, IsKey as IsP256Key, info_of as p256_info}
use Rattle.it_p384_field.specs.Prime.{prime as p384_prime, times_mod as p384_times}
use Rattle.it_p384_point.specs.Curve.{right_side as p384_side, is_on_curve as is_on_p384}
use Rattle.it_p384.specs.Key.{Key as P384Key, IsKey as IsP384Key, info_of as p384_info}
use Rattle.it_rsa.specs.Info.{exponent_bytes, info_of as rsa_info}
use Rattle.it_rsa.specs.Key.{Key as RsaKey, IsKey as IsRsaKey}
use Rattle.it_rsa.proofs.Infos.{read_of}
use Rattle.it_rsa.proofs.Keys.{exponent_read, key_is, parts_of_key}
use Rattle.it_public_keys.specs.DecodedKeys.{coordinates_in, ed25519_key, is_ed25519_key, is_p256_key}
use Rattle.it_public_keys.specs.DecodedKeys.{is_p384_key, p384_coordinates_in, p384_key}
use Rattle.it_public_keys.specs.DecodedKeys.{is_rsa_key, key_if, numbers_in, p256_key, rsa_key}
use Rattle.it_public_keys.specs.declared.key.Key.{Key}
use Rattle.it_public_keys.specs.declared.key.Key.TheVariants.{Ed25519, P256, P384, Rsa}

both : (a b : Bool) → (a && b) ≡ true → (a ≡ true) × (b ≡ true)
both true true e = (refl, refl)
both true false e = cc
both false b e = cc

joint : (a b : Bool) → a ≡ true → b ≡ true → (a && b) ≡ true
joint a b e h = rw (e, h) refl

not_so : (b : Bool) → not b ≡ true → b ≡ false
not_so true e = cc
not_so false e = refl

-- Ed25519
ed_from : (bytes : List ℕ) (o : Option Point) → decoded bytes ≡ o → length bytes ≡ 32
    → unwrap_or (option_map (λ point. not (is_small_order point)) o) false ≡ true
    → IsPublicKey bytes
ed_from bytes None e long h = cc
ed_from bytes (Some point) e long h = record {
  long = long;
  point = point;
  decodes = e;
  large = not_so (is_small_order point) h;
}

ed_sound : (bytes : List ℕ) → is_ed25519_key bytes ≡ true → IsPublicKey bytes
unfolding is_ed25519_key
ed_sound bytes e =
    let parts = both (nat_eq (length bytes) 32) _ e in
    ed_from bytes (decoded bytes) refl ((Decides-eqb (length bytes) 32).0 parts.0) parts.1

ed_all : (bytes : List ℕ) → IsPublicKey bytes → is_ed25519_key bytes ≡ true
unfolding is_ed25519_key
ed_all bytes is =
    joint (nat_eq (length bytes) 32) _ ((Decides-eqb (length bytes) 32).1 is.long)
    (rw (is.decodes, is.large) refl)

-- P-256
p256_sound : (info : List ℕ) (key : P256Key) → is_p256_key info key ≡ true
    → IsP256Key key × (info ≡ p256_info key)
unfolding is_p256_key
p256_sound info key e =
    let first = both (bytes_eq info (p256_info key)) _ e in
    let second = both (nat_lt key.x prime) _ first.1 in
    let third = both (nat_lt key.y prime) (is_on_curve key.x key.y) second.1 in (
      record {
        x_below = ltb-true _ _ second.0;
        y_below = ltb-true _ _ third.0;
        on_curve = (Decides-eqb (times_mod key.y key.y) (right_side key.x)).0 third.1;
      },
      (bytes_eq-Decides info (p256_info key)).0 first.0,
    )

lt_is : (x y : ℕ) → x < y → nat_lt x y ≡ true
lt_is x y h = grind (arith, nat_tests)

le_is : (x y : ℕ) → x ≤ y → nat_le x y ≡ true
le_is x y h = grind (arith, nat_tests)

p256_all : (info : List ℕ) (key : P256Key) → IsP256Key key → info ≡ p256_info key
    → is_p256_key info key ≡ true
unfolding is_p256_key
p256_all info key is e =
    joint (bytes_eq info (p256_info key)) _ ((bytes_eq-Decides info (p256_info key)).1 e)
    (joint (nat_lt key.x prime) _ (lt_is key.x prime is.x_below)
    (joint (nat_lt key.y prime) (is_on_curve key.x key.y) (lt_is key.y prime is.y_below)
    ((Decides-eqb (times_mod key.y key.y) (right_side key.x)).1 is.on_curve)))

coordinate : (x : ℕ) → x < prime → big (big_bytes 32 x) ≡ x
coordinate x below = let fits : x < 2 ^ (8 * 32) = omega arith in big-bytes 32 x fits

pub front : (xs ys : List ℕ) (n : ℕ) → length xs ≡ n → take n (xs ++ ys) ≡ xs
front xs ys n long = take-append-le n xs ys (omega arith) ∙ take_all n xs (omega arith)

rest : (xs ys : List ℕ) (n : ℕ) → length xs ≡ n → drop n (xs ++ ys) ≡ ys
rest xs ys n long =
    drop-append-le n xs ys (omega arith) ∙ ap (λ (l : List ℕ). l ++ ys) (drop_all n xs (omega arith))

p256_read : (info : List ℕ) (key : P256Key) → IsP256Key key → info ≡ p256_info key
    → coordinates_in info ≡ key
unfolding coordinates_in
p256_read info key is e =
    let xs = big_bytes 32 key.x in
    let ys = big_bytes 32 key.y in
    let x_read : big (take 32 (drop 27 (p256_info key))) ≡ key.x =
    ap big (front xs ys 32 (length-big_bytes 32 key.x)) ∙ coordinate key.x is.x_below in
    let y_read : big (drop 59 (p256_info key)) ≡ key.y =
    ap big (rest xs ys 32 (length-big_bytes 32 key.x)) ∙ coordinate key.y is.y_below in
    let made : ℕ → ℕ → P256Key = λ x y. record { x = x; y = y } in
    rw e (ap (λ x. made x (big (drop 59 (p256_info key)))) x_read ∙ ap (made key.x) y_read)

-- P-384
p384_sound : (info : List ℕ) (key : P384Key) → is_p384_key info key ≡ true
    → IsP384Key key × (info ≡ p384_info key)
unfolding is_p384_key
p384_sound info key e =
    let first = both (bytes_eq info (p384_info key)) _ e in
    let second = both (nat_lt key.x p384_prime) _ first.1 in
    let third = both (nat_lt key.y p384_prime) (is_on_p384 key.x key.y) second.1 in (
      record {
        x_below = ltb-true _ _ second.0;
        y_below = ltb-true _ _ third.0;
        on_curve = (Decides-eqb (p384_times key.y key.y) (p384_side key.x)).0 third.1;
      },
      (bytes_eq-Decides info (p384_info key)).0 first.0,
    )

p384_all : (info : List ℕ) (key : P384Key) → IsP384Key key → info ≡ p384_info key
    → is_p384_key info key ≡ true
unfolding is_p384_key
p384_all info key is e =
    joint (bytes_eq info (p384_info key)) _ ((bytes_eq-Decides info (p384_info key)).1 e)
    (joint (nat_lt key.x p384_prime) _ (lt_is key.x p384_prime is.x_below)
    (joint (nat_lt key.y p384_prime) (is_on_p384 key.x key.y) (lt_is key.y p384_prime is.y_below)
    ((Decides-eqb (p384_times key.y key.y) (p384_side key.x)).1 is.on_curve)))

p384_coordinate : (x : ℕ) → x < p384_prime → big (big_bytes 48 x) ≡ x
p384_coordinate x below = let fits : x < 2 ^ (8 * 48) = omega arith in big-bytes 48 x fits

p384_read : (info : List ℕ) (key : P384Key) → IsP384Key key → info ≡ p384_info key
    → p384_coordinates_in info ≡ key
unfolding p384_coordinates_in
p384_read info key is e =
    let xs = big_bytes 48 key.x in
    let ys = big_bytes 48 key.y in
    let x_read : big (take 48 (drop 24 (p384_info key))) ≡ key.x =
    ap big (front xs ys 48 (length-big_bytes 48 key.x)) ∙ p384_coordinate key.x is.x_below in
    let y_read : big (drop 72 (p384_info key)) ≡ key.y =
    ap big (rest xs ys 48 (length-big_bytes 48 key.x)) ∙ p384_coordinate key.y is.y_below in
    let made : ℕ → ℕ → P384Key = λ x y. record { x = x; y = y } in
    rw e (ap (λ x. made x (big (drop 72 (p384_info key)))) x_read ∙ ap (made key.x) y_read)

-- RSA
rsa_sound : (info : List ℕ) (key : RsaKey) → is_rsa_key info key ≡ true
    → IsRsaKey key × (info ≡ rsa_info key)
unfolding is_rsa_key
rsa_sound info key e =
    let first = both (bytes_eq info (rsa_info key)) _ e in
    let full = both (nat_le 128 (get_or key.modulus 0 0)) _ first.1 in
    let least = both (nat_le 256 (length key.modulus)) _ full.1 in
    let most = both (nat_le (length key.modulus) 512) _ least.1 in
    let odd = both (nat_eq (big key.modulus % 2) 1) _ most.1 in
    let exponent_odd = both (nat_eq (key.exponent % 2) 1) _ odd.1 in
    let exponent_least = both (nat_le 3 key.exponent) (nat_lt key.exponent (2 ^ 31))
    exponent_odd.1 in (
      record {
        full = leb-true _ _ full.0;
        least = leb-true _ _ least.0;
        most = leb-true _ _ most.0;
        odd = (Decides-eqb (big key.modulus % 2) 1).0 odd.0;
        exponent_odd = (Decides-eqb (key.exponent % 2) 1).0 exponent_odd.0;
        exponent_least = leb-true _ _ exponent_least.0;
        exponent_most = ltb-true _ _ exponent_least.1;
      },
      (bytes_eq-Decides info (rsa_info key)).0 first.0,
    )

rsa_all : (info : List ℕ) (key : RsaKey) → IsRsaKey key → info ≡ rsa_info key
    → is_rsa_key info key ≡ true
unfolding is_rsa_key
rsa_all info key is e =
    joint (bytes_eq info (rsa_info key)) _ ((bytes_eq-Decides info (rsa_info key)).1 e)
    (joint (nat_le 128 (get_or key.modulus 0 0)) _ (le_is _ _ is.full)
    (joint (nat_le 256 (length key.modulus)) _ (le_is _ _ is.least)
    (joint (nat_le (length key.modulus) 512) _ (le_is _ _ is.most)
    (joint (nat_eq (big key.modulus % 2) 1) _ ((Decides-eqb (big key.modulus % 2) 1).1 is.odd)
    (joint (nat_eq (key.exponent % 2) 1) _ ((Decides-eqb (key.exponent % 2) 1).1 is.exponent_odd)
    (joint (nat_le 3 key.exponent) (nat_lt key.exponent (2 ^ 31)) (le_is _ _ is.exponent_least)
    (lt_is _ _ is.exponent_most)))))))

rsa_read : (info : List ℕ) (key : RsaKey) → IsRsaKey key → info ≡ rsa_info key
    → numbers_in info ≡ key
unfolding numbers_in
rsa_read info key is e =
    let exponent = exponent_bytes key.exponent in
    let parts = parts_of_key info key is e in
    let r = read_of info key.modulus exponent parts in
    let long : 256 * get_or info 30 0 + get_or info 31 0 ≡ length key.modulus + 1 = r.long in
    let size : length key.modulus ≡ 256 * get_or info 30 0 + get_or info 31 0 - 1 = omega arith in
    let modulus : take (256 * get_or info 30 0 + get_or info 31 0 - 1) (drop 33 info)
    ≡ key.modulus =
    ap (take (256 * get_or info 30 0 + get_or info 31 0 - 1)) r.rest
    ∙ front key.modulus (2 ∷ length exponent ∷ exponent) _ size in
    let after : drop (256 * get_or info 30 0 + get_or info 31 0 - 1) (drop 33 info)
    ≡ 2 ∷ length exponent ∷ exponent =
    ap (drop (256 * get_or info 30 0 + get_or info 31 0 - 1)) r.rest
    ∙ rest key.modulus (2 ∷ length exponent ∷ exponent) _ size in
    key_is (numbers_in info) key modulus
    (ap (λ l. big (drop 2 l)) after ∙ exponent_read key.exponent exponent is.exponent_most refl)

-- where a test holds, the key is there
key_if_is : (test : Bool) (found key : Key) → key_if test found ≡ Some key
    → (test ≡ true) × (found ≡ key)
key_if_is true found key e = (refl, same_Some found key e)
key_if_is false found key e = cc

key_if_so : (test : Bool) (found key : Key) → test ≡ true → found ≡ key
    → key_if test found ≡ Some key
key_if_so test found key e same = rw (e, same) refl

key_if_not : (test : Bool) (found : Key) → (test ≡ true → ⊥) → None ≡ key_if test found
key_if_not true found fails = absurd (fails refl)
key_if_not false found fails = refl

-- each key is decoded from its bytes
pub ed25519_there : (bytes : List ℕ) → IsPublicKey bytes
    → ed25519_key bytes ≡ Some (Ed25519 bytes)
ed25519_there bytes is =
    key_if_so (is_ed25519_key bytes) (Ed25519 bytes) (Ed25519 bytes) (ed_all bytes is) refl

pub p256_there : (info : List ℕ) (key : P256Key) → IsP256Key key → info ≡ p256_info key
    → p256_key info ≡ Some (P256 key)
p256_there info key is same =
    let read : coordinates_in info ≡ key = p256_read info key is same in
    key_if_so (is_p256_key info (coordinates_in info)) (P256 (coordinates_in info)) (P256 key)
    (rw read (p256_all info key is same)) (ap (λ k. P256 k) read)

pub p384_there : (info : List ℕ) (key : P384Key) → IsP384Key key → info ≡ p384_info key
    → p384_key info ≡ Some (P384 key)
p384_there info key is same =
    let read : p384_coordinates_in info ≡ key = p384_read info key is same in
    key_if_so (is_p384_key info (p384_coordinates_in info)) (P384 (p384_coordinates_in info)) (P384 key)
    (rw read (p384_all info key is same)) (ap (λ k. P384 k) read)

pub rsa_there : (info : List ℕ) (key : RsaKey) → IsRsaKey key → info ≡ rsa_info key
    → rsa_key info ≡ Some (Rsa key)
rsa_there info key is same =
    let read : numbers_in info ≡ key = rsa_read info key is same in
    key_if_so (is_rsa_key info (numbers_in info)) (Rsa (numbers_in info)) (Rsa key)
    (rw read (rsa_all info key is same)) (ap (λ k. Rsa k) read)

-- and no other bytes are decoded
pub ed25519_missing : (bytes : List ℕ) → ¬ IsPublicKey bytes → None ≡ ed25519_key bytes
ed25519_missing bytes none =
    key_if_not (is_ed25519_key bytes) (Ed25519 bytes) (λ e. none (ed_sound bytes e))

pub p256_missing : (info : List ℕ)
    → ((key : P256Key) → IsP256Key key → info ≡ p256_info key → ⊥) → None ≡ p256_key info
p256_missing info none =
    key_if_not (is_p256_key info (coordinates_in info)) (P256 (coordinates_in info))
    (λ e. (let is = p256_sound info (coordinates_in info) e in none (coordinates_in info) is.0 is.1))

pub p384_missing : (info : List ℕ)
    → ((key : P384Key) → IsP384Key key → info ≡ p384_info key → ⊥) → None ≡ p384_key info
p384_missing info none =
    key_if_not (is_p384_key info (p384_coordinates_in info)) (P384 (p384_coordinates_in info))
    (λ e. (let is = p384_sound info (p384_coordinates_in info) e in none (p384_coordinates_in info) is.0 is.1))

pub rsa_missing : (info : List ℕ)
    → ((key : RsaKey) → IsRsaKey key → info ≡ rsa_info key → ⊥) → None ≡ rsa_key info
rsa_missing info none =
    key_if_not (is_rsa_key info (numbers_in info)) (Rsa (numbers_in info))
    (λ e. (let is = rsa_sound info (numbers_in info) e in none (numbers_in info) is.0 is.1))

-- what is decoded is a key, of these bytes
pub record IsEd25519 (bytes : List ℕ) (key : Key) : Type 0 where
  pub is : IsPublicKey bytes
  pub key_is : Ed25519 bytes ≡ key

pub record IsP256 (info : List ℕ) (key : Key) : Type 0 where
  pub numbers : P256Key
  pub is : IsP256Key numbers
  pub info_is : info ≡ p256_info numbers
  pub key_is : P256 numbers ≡ key

pub record IsP384 (info : List ℕ) (key : Key) : Type 0 where
  pub numbers : P384Key
  pub is : IsP384Key numbers
  pub info_is : info ≡ p384_info numbers
  pub key_is : P384 numbers ≡ key

pub record IsRsa (info : List ℕ) (key : Key) : Type 0 where
  pub numbers : RsaKey
  pub is : IsRsaKey numbers
  pub info_is : info ≡ rsa_info numbers
  pub key_is : Rsa numbers ≡ key

pub ed25519_decoded : (bytes : List ℕ) (key : Key) → ed25519_key bytes ≡ Some key
    → IsEd25519 bytes key
ed25519_decoded bytes key e =
    let is = key_if_is (is_ed25519_key bytes) (Ed25519 bytes) key e in
    record { is = ed_sound bytes is.0; key_is = is.1 }

pub p256_decoded : (info : List ℕ) (key : Key) → p256_key info ≡ Some key → IsP256 info key
p256_decoded info key e =
    let is = key_if_is (is_p256_key info (coordinates_in info)) (P256 (coordinates_in info)) key e in
    let good = p256_sound info (coordinates_in info) is.0 in
    record { numbers = coordinates_in info; is = good.0; info_is = good.1; key_is = is.1 }

pub p384_decoded : (info : List ℕ) (key : Key) → p384_key info ≡ Some key → IsP384 info key
p384_decoded info key e =
    let is = key_if_is (is_p384_key info (p384_coordinates_in info)) (P384 (p384_coordinates_in info)) key e in
    let good = p384_sound info (p384_coordinates_in info) is.0 in
    record { numbers = p384_coordinates_in info; is = good.0; info_is = good.1; key_is = is.1 }

pub rsa_decoded : (info : List ℕ) (key : Key) → rsa_key info ≡ Some key → IsRsa info key
rsa_decoded info key e =
    let is = key_if_is (is_rsa_key info (numbers_in info)) (Rsa (numbers_in info)) key e in
    let good = rsa_sound info (numbers_in info) is.0 in
    record { numbers = numbers_in info; is = good.0; info_is = good.1; key_is = is.1 }
