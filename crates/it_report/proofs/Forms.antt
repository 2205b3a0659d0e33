-- What the form of a name tells.
use Rattle.std.proofs.Common.{◌≡◌, ◌≢◌, ◌<◌, ◌≤◌, ◌/◌, ◌%◌, ◌==◌, ℕ, Bool, true, false}
use Rattle.std.proofs.Common.{if◌then◌else◌, List, [], ◌∷◌, ◌++◌, codes, refl, sym, ap, ◌∙◌, get_or}
use Rattle.std.proofs.Common.{arith, lit<, lit≤}
use Rattle.std.specs.List.{flat_map}
use Rattle.std.proofs.lemmas.Bool.Decides.{nat_tests}
use Rattle.it_report.proofs.Cut.{Lacks, Lacks-append, Lacks-none, Lacks-test}
use Rattle.it_report.specs.ReportLaws.{FormsAreWords, FormsTell}
use Rattle.it_report.specs.Name.{byte_form, digit_form, inner_byte_form, inner_form, is_plain}
use Rattle.it_report.specs.Name.{name_form}

-- ---- names whose bytes have forms that tell them
module _ (of_byte : ℕ → List ℕ) (some : (y : ℕ) (qs : List ℕ) → of_byte y ++ qs ≢ [])
    (one : (x y : ℕ) (ps qs : List ℕ) → of_byte x ++ ps ≡ of_byte y ++ qs → (x ≡ y)
    × (ps ≡ qs)) where
  flat_map-tells : (a b : List ℕ) → flat_map of_byte a ≡ flat_map of_byte b → a ≡ b
  flat_map-tells [] [] same = refl
  flat_map-tells [] (y ∷ b) same = absurd (some y (flat_map of_byte b) (sym same))
  flat_map-tells (x ∷ a) [] same = absurd (some x (flat_map of_byte a) same)
  flat_map-tells (x ∷ a) (y ∷ b) same =
      let parts = one x y (flat_map of_byte a) (flat_map of_byte b) same in
      let head = parts.0 in
      let tail = flat_map-tells a b parts.1 in
      cc

pub flat_map-lacks : {X : Type 0} (c : ℕ) (of : X → List ℕ) → ((x : X) → Lacks c (of x))
    → (xs : List X) → Lacks c (flat_map of xs)
flat_map-lacks c of each [] = tt
flat_map-lacks c of each (x ∷ xs) = Lacks-append c (of x) (flat_map of xs) (each x)
    (flat_map-lacks c of each xs)

-- ---- bytes
digit_form-injective : (m n : ℕ) → digit_form m ≡ digit_form n → m ≡ n
digit_form-injective m n same = grind (arith, nat_tests)

digit_form-lacks : (c n : ℕ) → c < 48 → digit_form n ≢ c
digit_form-lacks c n below same = grind (arith, nat_tests)

-- the form of a byte that is plain, or not
abbrev form : Bool → ℕ → List ℕ
form plain byte = if plain then byte ∷ [] else codes "\\x" ++ digit_form (byte / 16) ∷ digit_form
    (byte % 16) ∷ []

not_plain : (byte c : ℕ) → is_plain c ≡ false → is_plain byte ≡ true → byte ≢ c
not_plain byte c odd plain same = let tests : true ≡ false = sym plain ∙ ap is_plain same ∙ odd in
    cc

module _ (x y : ℕ) (ps qs : List ℕ) where
  -- a form of digits tells, whether or not its byte is plain
  digits_tell : (q : Bool) → is_plain y ≡ q → form false x ++ ps ≡ form q y ++ qs → (x ≡ y)
      × (ps ≡ qs)
  digits_tell true plain same = absurd (not_plain y 92 refl plain (cc))
  digits_tell false odd same =
      let high : digit_form (x / 16) ≡ digit_form (y / 16) = cc in
      let low : digit_form (x % 16) ≡ digit_form (y % 16) = cc in
      let high_same = digit_form-injective (x / 16) (y / 16) high in
      let low_same = digit_form-injective (x % 16) (y % 16) low in
      (omega arith, cc)

  one_form : (p q : Bool) → is_plain x ≡ p → is_plain y ≡ q → form p x ++ ps ≡ form q y ++ qs
      → (x ≡ y) × (ps ≡ qs)
  one_form true true plain also_plain same = (cc, cc)
  one_form true false plain odd same = absurd (not_plain x 92 refl plain (cc))
  one_form false q odd also same = digits_tell q also same

one_byte : (x y : ℕ) (ps qs : List ℕ) → byte_form x ++ ps ≡ byte_form y ++ qs → (x ≡ y) × (ps ≡ qs)
one_byte x y ps qs same = one_form x y ps qs (is_plain x) (is_plain y) refl refl same

no_end : (y : ℕ) (qs : List ℕ) (q : Bool) → form q y ++ qs ≢ []
no_end y qs true same = cc
no_end y qs false same = cc

-- \e is no byte's form
no_mark : (y : ℕ) (qs : List ℕ) (q : Bool) → is_plain y ≡ q → codes "\\e" ≢ form q y ++ qs
no_mark y qs true plain same = not_plain y 92 refl plain (cc)
no_mark y qs false odd same = let apart : true ≡ false = ap (λ text. get_or text 1 0 == 101) same in
    cc

form-lacks : (c x : ℕ) (p : Bool) → c < 48 → (p ≡ true → x ≢ c) → Lacks c (form p x)
form-lacks c x true below apart = (apart refl, tt)
form-lacks c x false below apart = (
  omega arith,
  (
    omega arith,
    (digit_form-lacks c (x / 16) below, (digit_form-lacks c (x % 16) below, tt)),
  ),
)

plain_apart : (c x : ℕ) → c ≤ 0x20 → is_plain x ≡ true → x ≢ c
plain_apart c x below plain = grind (arith, nat_tests)

byte_form-lacks : (c : ℕ) → c ≤ 0x20 → (x : ℕ) → Lacks c (byte_form x)
byte_form-lacks c below x = form-lacks c x (is_plain x) (omega arith) (plain_apart c x below)

-- ---- names
pub forms_tell : FormsTell
unfolding name_form
forms_tell [] [] same = refl
forms_tell [] (y ∷ b) same = absurd (no_mark y (flat_map byte_form b) (is_plain y) refl same)
forms_tell (x ∷ a) [] same = absurd (no_mark x (flat_map byte_form a) (is_plain x) refl (sym same))
forms_tell (x ∷ a) (y ∷ b) same = flat_map-tells byte_form (λ z qs. no_end z qs (is_plain z))
    one_byte (x ∷ a) (y ∷ b) same

pub name_form-lacks : (c : ℕ) (name : List ℕ) → c ≤ 0x20 → Lacks c (name_form name)
unfolding name_form
name_form-lacks c [] below = (omega arith, (omega arith, tt))
name_form-lacks c (x ∷ name) below = flat_map-lacks c byte_form (byte_form-lacks c below) (x ∷ name)

pub forms_are_words : FormsAreWords
forms_are_words name byte below = Lacks-none byte (name_form name) (name_form-lacks byte name below)

-- ---- names among names
-- the form of a byte that is a slash, or not
abbrev inner : Bool → ℕ → List ℕ
inner slash byte = if slash then codes "\\x2f" else byte_form byte

one_inner_form : (x y : ℕ) (ps qs : List ℕ) (s t : Bool) → (x == 47) ≡ s → (y == 47) ≡ t → inner s x
    ++ ps ≡ inner t y ++ qs → (x ≡ y) × (ps ≡ qs)
one_inner_form x y ps qs true true slash also_slash same = (grind (arith, nat_tests), cc)
one_inner_form x y ps qs true false slash other same =
    let is_slash = (digits_tell 47 y ps qs (is_plain y) refl same).0 in
    absurd (grind (arith, nat_tests))
one_inner_form x y ps qs false true other slash same =
    let is_slash = (digits_tell 47 x qs ps (is_plain x) refl (sym same)).0 in
    absurd (grind (arith, nat_tests))
one_inner_form x y ps qs false false other also_other same = one_byte x y ps qs same

one_inner : (x y : ℕ) (ps qs : List ℕ) → inner_byte_form x ++ ps ≡ inner_byte_form y ++ qs → (x ≡ y)
    × (ps ≡ qs)
one_inner x y ps qs same = one_inner_form x y ps qs (x == 47) (y == 47) refl refl same

inner_no_end : (y : ℕ) (qs : List ℕ) (t : Bool) → inner t y ++ qs ≢ []
inner_no_end y qs true same = cc
inner_no_end y qs false same = no_end y qs (is_plain y) same

inner_no_mark : (y : ℕ) (qs : List ℕ) (t : Bool) → codes "\\e" ≢ inner t y ++ qs
inner_no_mark y qs true same = let apart : true ≡ false =
    ap (λ text. get_or text 1 0 == 101) same in cc
inner_no_mark y qs false same = no_mark y qs (is_plain y) refl same

pub inner_forms_tell : (a b : List ℕ) → inner_form a ≡ inner_form b → a ≡ b
unfolding inner_form
inner_forms_tell [] [] same = refl
inner_forms_tell [] (y ∷ b) same =
    absurd (inner_no_mark y (flat_map inner_byte_form b) (y == 47) same)
inner_forms_tell (x ∷ a) [] same =
    absurd (inner_no_mark x (flat_map inner_byte_form a) (x == 47) (sym same))
inner_forms_tell (x ∷ a) (y ∷ b) same =
    flat_map-tells inner_byte_form (λ z qs. inner_no_end z qs (z == 47)) one_inner (x ∷ a)
    (y ∷ b) same

inner-lacks-slash : (x : ℕ) (t : Bool) → (x == 47) ≡ t → Lacks 47 (inner t x)
inner-lacks-slash x true slash = Lacks-test 47 (codes "\\x2f") refl
inner-lacks-slash x false other = form-lacks 47 x (is_plain x) (lit< tt)
    (λ plain same. absurd (grind (arith, nat_tests)))

inner-lacks-line : (x : ℕ) (t : Bool) → Lacks 10 (inner t x)
inner-lacks-line x true = Lacks-test 10 (codes "\\x2f") refl
inner-lacks-line x false = byte_form-lacks 10 (lit≤ tt) x

pub inner_form-lacks-slash : (name : List ℕ) → Lacks 47 (inner_form name)
unfolding inner_form
inner_form-lacks-slash [] = Lacks-test 47 (codes "\\e") refl
inner_form-lacks-slash (x ∷ name) =
    flat_map-lacks 47 inner_byte_form (λ y. inner-lacks-slash y (y == 47) refl) (x ∷ name)

pub inner_form-lacks-line : (name : List ℕ) → Lacks 10 (inner_form name)
unfolding inner_form
inner_form-lacks-line [] = Lacks-test 10 (codes "\\e") refl
inner_form-lacks-line (x ∷ name) =
    flat_map-lacks 10 inner_byte_form (λ y. inner-lacks-line y (y == 47)) (x ∷ name)
