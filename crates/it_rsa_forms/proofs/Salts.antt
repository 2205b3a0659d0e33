-- The salt in DB, and in an encoded message.
use Rattle.std.proofs.Common.{◌≡◌, ◌≢◌, ◌∙◌, ◌+◌, ◌-◌, ◌*◌, ◌^◌, ◌<◌, ◌≤◌, ◌++◌, [], ℕ, List, Option, None, Some, MatchOption, ap, arith, drop, get_or, inl, inr, length, refl, subst, sym, take}
use Rattle.std.specs.Prelude.{replicate}
use Rattle.std.proofs.lemmas.Bool.{cases_lt}
use Rattle.std.proofs.lemmas.List.{append-nil, length-drop, length-take-le, take_all}
use Rattle.sha2.specs.Sha256.{sha256}
use Rattle.it_rsa.specs.Encoding.{data_of, hash_of, low_bits, with_low_bits}
use Rattle.it_rsa.specs.Mask.{mgf1, xored}
use Rattle.it_rsa_forms.specs.Pss.{IsEncodedOfSalt, IsOpenedOfSalt}

-- the first byte that is not zero stands there
pub record IsMark (db : List ℕ) (mark : ℕ) : Type 0 where
  pub within : mark < length db
  pub some : get_or db mark 0 ≢ 0
  pub zeros : (k : ℕ) → k < mark → get_or db k 0 ≡ 0

-- a salt follows the first byte that is not zero
pub mark_is : (digest db hash : List ℕ) (mark salt : ℕ) → IsMark db mark → salt + 1 ≤ length db
    → IsOpenedOfSalt salt digest db hash → mark ≡ length db - (salt + 1)
mark_is digest db hash mark salt first fits opened =
    let at = length db - (salt + 1) in
    elim (cases_lt mark at) [
      | inl less ↦ absurd (first.some (opened.zeros mark less))
      | inr most ↦ elim (cases_lt at mark) [
        | inl less ↦ absurd (let e : 0 ≡ 1 = sym (first.zeros at less) ∙ opened.one in cc)
        | inr least ↦ omega (arith, most, least)
      ]
    ]

module _ (digest db hash rest again : List ℕ) (mark : ℕ) (first : IsMark db mark)
    (rest_is : rest ≡ take (length db - (mark + 1)) (drop (mark + 1) db))
    (again_is : again ≡ sha256 (replicate 8 0 ++ digest ++ (rest ++ []))) where
  all_rest : rest ≡ drop (mark + 1) db
  all_rest = rest_is ∙ take_all (length db - (mark + 1)) (drop (mark + 1) db)
      (omega (arith, length-drop (mark + 1) db))

  rest_long : length rest ≡ length db - (mark + 1)
  rest_long = ap length all_rest ∙ length-drop (mark + 1) db

  digest_is : again ≡ sha256 (replicate 8 0 ++ digest ++ drop (mark + 1) db)
  digest_is =
      again_is ∙ ap (λ (s : List ℕ). sha256 (replicate 8 0 ++ digest ++ s)) (append-nil rest ∙ all_rest)

  -- where DB has its 1 and the digest is H, it has this salt
  pub salt_opened : get_or db mark 0 ≡ 1 → again ≡ hash
      → (length rest + 1 ≤ length db) × IsOpenedOfSalt (length rest) digest db hash
  salt_opened one same =
      let within = first.within in
      let at : mark ≡ length db - (length rest + 1) = omega (arith, rest_long, within) in
      let after : mark + 1 ≡ length db - length rest = omega (arith, rest_long, within) in (
        omega (arith, rest_long, within),
        record {
          zeros = λ k less. first.zeros k (subst (λ (n : ℕ). k < n) (sym at) less);
          one = subst (λ (n : ℕ). get_or db n 0 ≡ 1) at one;
          agrees = subst (λ (n : ℕ). sha256 (replicate 8 0 ++ digest ++ drop n db) ≡ hash) after
              (sym digest_is ∙ same);
        },
      )

  -- where the digest is another, there is none
  pub not_opened : again ≢ hash → (salt : ℕ) → salt + 1 ≤ length db
      → IsOpenedOfSalt salt digest db hash → ⊥
  not_opened differs salt fits opened =
      let within = first.within in
      let at = mark_is digest db hash mark salt first fits opened in
      let after : length db - salt ≡ mark + 1 = omega (arith, at, fits, within) in
      differs (digest_is ∙ subst (λ (n : ℕ). sha256 (replicate 8 0 ++ digest ++ drop n db) ≡ hash)
      after opened.agrees)

low : (em : List ℕ) → 0 < length em → low_bits em (8 * length em - 1) ≡ 7
low em some = omega arith

module _ (digest em db copy hash : List ℕ) (room : 34 ≤ length em)
    (copy_is : copy ≡ take (length em - 33) em)
    (hash_is : hash ≡ take (length em - 33 + 32 - (length em - 33)) (drop (length em - 33) em))
    (db_is : db ≡ with_low_bits 7 (xored copy (mgf1 hash (length copy))))
    (long : length db ≡ length copy) where
  same_hash : hash ≡ hash_of em
  same_hash =
      let size : length em - 33 + 32 - (length em - 33) ≡ 32 = omega arith in
      hash_is ∙ ap (λ (n : ℕ). take n (drop (length em - 33) em)) size

  copy_long : length copy ≡ length em - 33
  copy_long = ap length copy_is ∙ length-take-le (length em - 33) em (omega arith)

  same_data : db ≡ data_of em (8 * length em - 1)
  unfolding data_of
  same_data = db_is ∙ rw (low em (omega (arith, room)), copy_long, copy_is, same_hash) refl

  -- DB in an encoded message
  pub salt_judged : (found : Option ℕ) → get_or em (length em - 1) 0 ≡ 188 → get_or em 0 0 < 128
      → MatchOption found
      ((salt : ℕ) → salt + 1 ≤ length db → IsOpenedOfSalt salt digest db hash → ⊥)
      (λ salt. (salt + 1 ≤ length db) × IsOpenedOfSalt salt digest db hash)
      → MatchOption found
      ((salt : ℕ) → IsEncodedOfSalt salt digest em (8 * length em - 1) → ⊥)
      (λ salt. IsEncodedOfSalt salt digest em (8 * length em - 1))
  salt_judged None trailer clear none = λ salt encoded.
      let fits = encoded.room in
      none salt (omega (arith, fits, long, copy_long))
      (subst (λ (h : List ℕ). IsOpenedOfSalt salt digest db h) (sym same_hash)
      (subst (λ (d : List ℕ). IsOpenedOfSalt salt digest d (hash_of em)) (sym same_data)
      encoded.opened))
  salt_judged (Some salt) trailer clear found =
      let fits = found.0 in
      record {
        room = omega (arith, fits, long, copy_long);
        trailer = trailer;
        top_clear = subst (λ (n : ℕ). get_or em 0 0 < 2 ^ n) (sym (low em (omega (arith, room)))) clear;
        opened = subst (λ (d : List ℕ). IsOpenedOfSalt salt digest d (hash_of em)) same_data
            (subst (λ (h : List ℕ). IsOpenedOfSalt salt digest db h) same_hash found.1);
      }
