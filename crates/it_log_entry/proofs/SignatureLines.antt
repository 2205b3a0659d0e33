-- The signature lines of a note.
use Rattle.std.proofs.Common.{◌≡◌, ◌≢◌, ◌∙◌, ℕ, zero, suc, ◌+◌, ◌<◌, ◌≤◌, ◌==◌, List, [], ◌∷◌, ◌++◌, Bool, true, false}
use Rattle.std.proofs.Common.{Option, Some, None, refl, sym, ap, length, take, drop, get_or, arith}
use Rattle.std.specs.Borrow.{Bor}
use Rattle.std.specs.List.{All, AllZip, position}
use Rattle.base64.specs.Engines.{standard}
use Rattle.base64.specs.GeneralPurpose.{decoded_of}
use Rattle.std.proofs.lemmas.Bool.Decides.{Decides-eqb}
use Rattle.std.proofs.lemmas.List.{append_cancel_left, get_or-take, get_or_default, length-take}
use Rattle.std.proofs.lemmas.List.Quantifiers.{position-Some}
use Rattle.std.proofs.lemmas.Option.{same_Some}
use Rattle.it_base.specs.Finds.{Finds}
use Rattle.it_log_entry.specs.Note.{IsNamed, IsSignatureLine, signature_mark}
use Rattle.it_log_entry.specs.inside.Lines.{AreSignatures, texts_of}
use Rattle.it_log_entry.proofs.First.{first_at, no_first, same_cut}
use Rattle.it_log_entry.proofs.Notes.{cut_at}

-- tests of a byte
other_byte : (byte : ℕ) → byte ≢ 32 → (byte == 32) ≡ false
other_byte byte differs = by_test (byte == 32) (Decides-eqb byte 32).0
  where
    by_test : (b : Bool) → (b ≡ true → byte ≡ 32) → b ≡ false
    by_test true is = absurd (differs (is refl))
    by_test false is = refl

fails_other : (byte : ℕ) → (byte == 32) ≡ false → byte ≢ 32
fails_other byte fails is = let passes : (byte == 32) ≡ true = (Decides-eqb byte 32).1 is in
    let clash : false ≡ true = sym fails ∙ passes in cc

-- the name ends before the first space
pub named_found : (text : List ℕ) (end : ℕ) → position (λ byte. byte == 32) text ≡ Some end
    → 0 < end → IsNamed text (take end text) (drop (end + 1) text)
named_found text end is some =
    let first = position-Some (λ (byte : ℕ). byte == 32) text end 0 is in
    let below : end < length text = first.0 in
    let space : get_or text end 0 ≡ 32 = (Decides-eqb _ 32).0 first.1 in
    record {
      written = cut_at text end 0 below
          ∙ ap (λ (byte : ℕ). take end text ++ byte ∷ drop (end + 1) text) space;
      some = omega (arith, length-take end text);
      whole = λ k d within. before k d (first.2 k) within;
    }
  where
    before : (k d : ℕ) → (k < end → (get_or text k 0 == 32) ≡ false) → k < length (take end text)
        → get_or (take end text) k d ≢ 32
    before k d fails within =
        let less : k < end = omega (arith, length-take end text) in
        let inside : k < length text = omega (arith, length-take end text) in
        let same : get_or (take end text) k d ≡ get_or text k 0 = get_or-take end text k d less
        ∙ get_or_default text k d 0 inside in
        rw same (fails_other (get_or text k 0) (fails less))

spaceless : (name : List ℕ) → All (λ byte. byte ≢ 32) name → All (λ byte. (byte == 32) ≡ false) name
spaceless name whole = λ k d below. other_byte _ (whole k d below)

pub not_named : (text name rest : List ℕ) → position (λ byte. byte == 32) text ≡ None
    → ¬ IsNamed text name rest
not_named text name rest none is =
    no_first (λ (byte : ℕ). byte == 32) text name rest 32 none is.written (spaceless name is.whole) refl

-- a text that begins with a space has no name
pub no_name : (text name rest : List ℕ) (end : ℕ) → position (λ byte. byte == 32) text ≡ Some end
    → end ≡ 0 → ¬ IsNamed text name rest
no_name text name rest end at first is =
    let there : position (λ byte. byte == 32) text ≡ Some (length name) =
    ap (position (λ byte. byte == 32)) is.written
    ∙ first_at (λ (byte : ℕ). byte == 32) name rest 32 (spaceless name is.whole) refl in
    let same : end ≡ length name = same_Some end (length name) (sym at ∙ there) in
    let some = is.some in
    absurd (omega arith)

pub same_named : (text name rest other more : List ℕ) → IsNamed text name rest
    → IsNamed text other more → rest ≡ more
same_named text name rest other more is also =
    (same_cut (λ (byte : ℕ). byte == 32) name rest other more 32 32 (spaceless name is.whole) refl
    (spaceless other also.whole) refl (sym is.written ∙ also.written)).1

-- a line is one signature at most
pub same_signature : (line one other : List ℕ) → IsSignatureLine line one
    → IsSignatureLine line other → one ≡ other
same_signature line one other is also =
    let after : is.after_mark ≡ also.after_mark = append_cancel_left signature_mark is.after_mark
    also.after_mark (sym is.written ∙ also.written) in
    let named : IsNamed also.after_mark is.name is.encoded = rw (← after) is.named in
    let same : is.encoded ≡ also.encoded = same_named also.after_mark is.name is.encoded also.name
    also.encoded named also.named in
    same_Some one other (sym is.encodes ∙ (rw same also.encodes))

pub same_each : (lines signatures others : List (List ℕ)) → AllZip IsSignatureLine lines signatures
    → AllZip IsSignatureLine lines others → signatures ≡ others
same_each [] [] [] h k = refl
same_each [] [] (y ∷ ys) h k = absurd k
same_each [] (x ∷ xs) ys h k = absurd h
same_each (line ∷ lines) [] ys h k = absurd h
same_each (line ∷ lines) (x ∷ xs) [] h k = absurd k
same_each (line ∷ lines) (x ∷ xs) (y ∷ ys) h k =
    let head : x ≡ y = same_signature line x y h.0 k.0 in
    let tail : xs ≡ ys = same_each lines xs ys h.1 k.1 in
    cc

pub same_signatures : (lines signatures others : List (List ℕ)) → AreSignatures lines signatures
    → AreSignatures lines others → signatures ≡ others
same_signatures lines signatures others is also = same_each lines signatures others is.signed also.signed

-- a line that is no signature line leaves no signatures
pub zip_none : (lines : List (Bor (List ℕ))) (i : ℕ) (d : Bor (List ℕ)) → i < length lines
    → ((signature : List ℕ) → ¬ IsSignatureLine (get_or lines i d).now signature)
    → (signatures : List (List ℕ)) → ¬ AllZip IsSignatureLine (texts_of lines) signatures
zip_none [] i d below none signatures h = absurd (omega arith)
zip_none (line ∷ lines) i d below none [] h = h
zip_none (line ∷ lines) zero d below none (signature ∷ signatures) h = none signature h.0
zip_none (line ∷ lines) (suc i) d below none (signature ∷ signatures) h =
    zip_none lines i d (omega arith) none signatures h.1

-- what is wrong with a line
named_after : (line named signature : List ℕ) → line ≡ signature_mark ++ named
    → (is : IsSignatureLine line signature) → IsNamed named is.name is.encoded
named_after line named signature at is =
    let after : is.after_mark ≡ named = append_cancel_left signature_mark is.after_mark named
    (sym is.written ∙ at) in
    rw (← after) is.named

pub no_name_after : (line named signature : List ℕ) → line ≡ signature_mark ++ named
    → ((parts : List ℕ × List ℕ) → ¬ IsNamed named parts.0 parts.1) → ¬ IsSignatureLine line signature
no_name_after line named signature at none is =
    none (is.name, is.encoded) (named_after line named signature at is)

same_decoded : (line named name encoded signature : List ℕ) → line ≡ signature_mark ++ named
    → IsNamed named name encoded → IsSignatureLine line signature
    → decoded_of standard encoded ≡ Some signature
same_decoded line named name encoded signature at has is =
    let same : encoded ≡ is.encoded = same_named named name encoded is.name is.encoded has
    (named_after line named signature at is) in
    ap (decoded_of standard) same ∙ is.encodes

pub not_encoded : (line named name encoded signature : List ℕ) → line ≡ signature_mark ++ named
    → IsNamed named name encoded → None ≡ decoded_of standard encoded
    → ¬ IsSignatureLine line signature
not_encoded line named name encoded signature at has none is =
    let clash : None ≡ Some signature = none
    ∙ same_decoded line named name encoded signature at has is in
    cc

pub too_short : (line named name encoded found signature : List ℕ)
    → line ≡ signature_mark ++ named → IsNamed named name encoded
    → Some found ≡ decoded_of standard encoded → length found < 5
    → ¬ IsSignatureLine line signature
too_short line named name encoded found signature at has some short is =
    let same : found ≡ signature = same_Some found signature (some
    ∙ same_decoded line named name encoded signature at has is) in
    let long = is.long in
    omega (arith, ap length same)

-- as many signatures as lines
each_long : (lines signatures : List (List ℕ)) → AllZip IsSignatureLine lines signatures
    → length lines ≡ length signatures
each_long [] [] h = refl
each_long [] (x ∷ xs) h = absurd h
each_long (line ∷ lines) [] h = absurd h
each_long (line ∷ lines) (x ∷ xs) h = ap suc (each_long lines xs h.1)

pub signatures_found : (lines : List (List ℕ)) (found : Option (List (List ℕ)))
    → 0 < length lines → length lines ≤ 8 → Finds (AllZip IsSignatureLine lines) found
    → Finds (AreSignatures lines) found
signatures_found lines None some few none = λ signatures is. none signatures is.signed
signatures_found lines (Some signatures) some few each = record {
  signed = each;
  some = omega (arith, each_long lines signatures each);
  few = omega (arith, each_long lines signatures each);
}
