-- The numbers of a key, and their bytes.
use Rattle.std.proofs.Common.{◌≡◌, ◌≢◌, ◌↔◌, IsTrue, true, false, Bool, ℕ, ◌+◌, ◌*◌, ◌%◌, ◌^◌, ◌<◌, ◌≤◌, if◌then◌else◌, Option, None, Some, MatchOption, List, length, arith, sym, ap, ◌∙◌, refl, get_or, nat_eq, nat_lt}
use Rattle.std.proofs.lemmas.Bool.Decides.{nat_tests}
use Rattle.std.proofs.lemmas.Nat.{pow-add}
use Rattle.it_numbers.specs.Bytes.{big, big_bytes}
use Rattle.it_numbers.proofs.Big.{big-bytes, bytes-big, length-big_bytes}
use Rattle.it_rsa.specs.Info.{integer_length, exponent_bytes, info_of}
use Rattle.it_rsa.specs.Key.{Key, IsKey}
use Rattle.it_rsa.specs.inside.Parts.{AreParts}
use Rattle.it_rsa.proofs.Infos.{read_of, same_parts}

counts : (a b c : Bool) → (1 ≤ (if a then 1 else (if b then 2 else (if c then 3 else 4)))) × ((if a then 1 else (if b then 2 else (if c then 3 else 4))) ≤ 4)
counts true b c = (omega arith, omega arith)
counts false true c = (omega arith, omega arith)
counts false false true = (omega arith, omega arith)
counts false false false = (omega arith, omega arith)

pub length-exponent_bytes : (e : ℕ) → length (exponent_bytes e) ≡ integer_length e
length-exponent_bytes e = length-big_bytes (integer_length e) e

pub exponent_some : (e : ℕ) → 1 ≤ length (exponent_bytes e)
exponent_some e = rw (length-exponent_bytes e) ((counts (nat_lt e (2 ^ 7)) (nat_lt e (2 ^ 15)) (nat_lt e (2 ^ 23))).0)

pub exponent_short : (e : ℕ) → length (exponent_bytes e) ≤ 4
exponent_short e = rw (length-exponent_bytes e) ((counts (nat_lt e (2 ^ 7)) (nat_lt e (2 ^ 15)) (nat_lt e (2 ^ 23))).1)

below_of : (e limit : ℕ) (t : Bool) → t ≡ nat_lt e limit → t ≡ true → e < limit
below_of e limit t is h = grind (arith, nat_tests)

fits : (e : ℕ) (a b c : Bool) → a ≡ nat_lt e (2 ^ 7) → b ≡ nat_lt e (2 ^ 15) → c ≡ nat_lt e (2 ^ 23) → e < 2 ^ 31
    → e < 2 ^ (8 * (if a then 1 else (if b then 2 else (if c then 3 else 4))))
fits e true b c h p q most = let below : e < 2 ^ 7 = below_of e (2 ^ 7) true h refl in omega arith
fits e false true c h p q most = let below : e < 2 ^ 15 = below_of e (2 ^ 15) true p refl in omega arith
fits e false false true h p q most = let below : e < 2 ^ 23 = below_of e (2 ^ 23) true q refl in omega arith
fits e false false false h p q most = omega arith

-- the exponent is the number of its bytes
pub exponent_read : (e : ℕ) (bytes : List ℕ) → e < 2 ^ 31 → bytes ≡ exponent_bytes e → big bytes ≡ e
exponent_read e bytes most is =
    ap big is ∙ big-bytes (integer_length e) e (fits e (nat_lt e (2 ^ 7)) (nat_lt e (2 ^ 15)) (nat_lt e (2 ^ 23)) refl refl refl most)

pub exponent_written : (e : ℕ) (bytes : List ℕ) → ((k : ℕ) → get_or bytes k 0 < 256) → e ≡ big bytes → length bytes ≡ integer_length e → bytes ≡ exponent_bytes e
exponent_written e bytes small is long =
    sym (bytes-big bytes small) ∙ ap (λ (k : ℕ). big_bytes k (big bytes)) long ∙ ap (big_bytes (integer_length e)) (sym is)

pub modulus_judged : (b p q : ℕ) → 128 ≤ b → p ≡ q % 2 → IsTrue (nat_eq (q % 2) 1) ↔ ((128 ≤ b) × (p ≡ 1))
modulus_judged b p q h e = (λ yes. (h, e ∙ grind (arith, nat_tests)), λ is. let one : p ≡ 1 = is.1 in grind (arith, nat_tests))

clash : (t : Bool) → t ≡ true → t ≡ false → ⊥
clash true e h = let no : true ≡ false = h in cc
clash false e h = let no : false ≡ true = e in cc

pub no_modulus : (key : Key) (modulus : List ℕ) (t : Bool) → IsTrue t ↔ ((128 ≤ get_or modulus 0 0) × (big modulus % 2 ≡ 1)) → t ≡ false → IsKey key → modulus ≡ key.modulus → ⊥
no_modulus key modulus t judged missed good is = clash t (judged.1 (rw is (good.full, good.odd))) missed

pub no_exponent : (key : Key) (exponent : List ℕ) (e : ℕ) (t : Bool) → e ≡ big exponent → IsTrue t ↔ ((e % 2 ≡ 1) × (3 ≤ e) × (e < 2 ^ 31)) → t ≡ false
    → IsKey key → exponent ≡ exponent_bytes key.exponent → ⊥
no_exponent key exponent e t number judged missed good is =
    let same : e ≡ key.exponent = number ∙ exponent_read key.exponent exponent good.exponent_most is in
    clash t (judged.1 (rw same (good.exponent_odd, good.exponent_least, good.exponent_most))) missed

pub no_length : (key : Key) (exponent : List ℕ) (e n : ℕ) → e ≡ big exponent → n ≡ integer_length e → length exponent ≢ n → IsKey key → exponent ≡ exponent_bytes key.exponent → ⊥
no_length key exponent e n number size differs good is =
    let same : e ≡ key.exponent = number ∙ exponent_read key.exponent exponent good.exponent_most is in
    differs (ap length is ∙ length-exponent_bytes key.exponent ∙ sym (size ∙ ap integer_length same))

-- the key's numbers are parts
pub parts_of_key : (info : List ℕ) (key : Key) → IsKey key → info ≡ info_of key → AreParts info key.modulus (exponent_bytes key.exponent)
parts_of_key info key good is = record {
  least = good.least;
  most = good.most;
  some = exponent_some key.exponent;
  short = exponent_short key.exponent;
  encoded = is;
}

pub key_judged : (info modulus exponent : List ℕ) (key : Key) → AreParts info modulus exponent → modulus ≡ key.modulus → exponent ≡ exponent_bytes key.exponent → info ≡ info_of key
key_judged info modulus exponent key parts a b = parts.encoded ∙ rw (a, b) refl

pub key_is : (key other : Key) → key.modulus ≡ other.modulus → key.exponent ≡ other.exponent → key ≡ other
key_is key other a b =
    let first : key ≡ record { modulus = other.modulus; exponent = key.exponent } = ap (λ (m : List ℕ). record { modulus = m; exponent = key.exponent }) a in
    first ∙ ap (λ (e : ℕ). record { modulus = other.modulus; exponent = e }) b

pub same_key : (key other : Key) → IsKey key → IsKey other → info_of key ≡ info_of other → key ≡ other
same_key key other good fine is =
    let mine = read_of (info_of key) key.modulus (exponent_bytes key.exponent) (parts_of_key (info_of key) key good refl) in
    let theirs = read_of (info_of key) other.modulus (exponent_bytes other.exponent) (parts_of_key (info_of key) other fine is) in
    let same = same_parts (info_of key) key.modulus (exponent_bytes key.exponent) other.modulus (exponent_bytes other.exponent) mine theirs in
    key_is key other same.0
    (sym (exponent_read key.exponent (exponent_bytes other.exponent) good.exponent_most (sym same.1)) ∙ exponent_read other.exponent (exponent_bytes other.exponent) fine.exponent_most refl)

pub one_byte_more : (n i b : ℕ) → b < 256 → n < 2 ^ (8 * i) → 256 * n + b < 2 ^ (8 * (i + 1))
one_byte_more n i b h small =
    let at : 8 * (i + 1) ≡ 8 + 8 * i = omega arith in
    rw (at, pow-add 2 8 (8 * i)) (omega arith)

-- what was found of the parts is found of the whole
pub info_judged : (info modulus exponent : List ℕ) (found : Option Key) → AreParts info modulus exponent
    → MatchOption found ((key : Key) → IsKey key → modulus ≡ key.modulus → exponent ≡ exponent_bytes key.exponent → ⊥)
    (λ key. IsKey key × (modulus ≡ key.modulus) × (exponent ≡ exponent_bytes key.exponent))
    → MatchOption found ((key : Key) → IsKey key → info ≡ info_of key → ⊥) (λ key. IsKey key × (info ≡ info_of key))
info_judged info modulus exponent None parts none = λ key good is.
    let mine = read_of info modulus exponent parts in
    let theirs = read_of info key.modulus (exponent_bytes key.exponent) (parts_of_key info key good is) in
    let same = same_parts info modulus exponent key.modulus (exponent_bytes key.exponent) mine theirs in
    none key good same.0 same.1
info_judged info modulus exponent (Some key) parts found = (found.0, key_judged info modulus exponent key parts found.1 found.2)
