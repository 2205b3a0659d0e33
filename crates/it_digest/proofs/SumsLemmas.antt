-- A digest list, read line by line.
use Rattle.std.proofs.Common.{◌≡◌, ◌≢◌, inl, inr, ℕ, suc, ◌+◌, ◌-◌, ◌==◌, ◌<◌, ◌≤◌, List, [], ◌∷◌}
use Rattle.std.proofs.Common.{◌++◌, length, take, drop, get_or, Option, Some, None, zero, cond, not}
use Rattle.std.proofs.Common.{is_some, nat_lt, MatchBool, Bool, true, false, refl, sym, ap, subst}
use Rattle.std.proofs.Common.{◌∙◌, append-nil, append_assoc, length-append, take-append-drop}
use Rattle.std.proofs.Common.{length-take-le, take_all, arith}
use Rattle.std.proofs.Math.ListN.{get_or-append}
use Rattle.std.proofs.Math.Seq.{get_or-append_seam, take-append-add, take-append_seam}
use Rattle.std.proofs.lemmas.Cmp.{nat_list_cmp_total}
use Rattle.std.proofs.lemmas.List.{drop_all, drop_at, take-take}
use Rattle.std.proofs.lemmas.List.Quantifiers.{all_pairs_push}
use Rattle.std.specs.List.{AllPairs, AllZip, onto_first, position, position_or_len}
use Rattle.std.specs.Cmp.{Equal-is, eq_by_cmp_equiv}
use Rattle.std.specs.Ordering.{eq_by_cmp}
use Rattle.std.specs.FinMap.{empty, find, from_entries, from_entries_push, get, get-from_entries}
use Rattle.std.specs.FinMap.{insert, nat_cmp-IsAntisymmetric, slice_cmp-IsAntisymmetric}
use Rattle.it_base.specs.HexadecimalText.{hexadecimal_decoded}
use Rattle.it_digest.specs.declared.compare.DigestSet.{DigestSet}
use Rattle.it_digest.specs.Artifacts.{ArtifactMap}
use Rattle.it_digest.specs.DigestSet.{Algorithm, only}
use Rattle.it_digest.specs.Sums.{AreSums, IsCut, IsFirstBadLine, IsMarkedPath, IsSum}
use Rattle.it_digest.specs.inside.SumLines.{AddsNothing, AddsSum}
use Rattle.it_digest.specs.Sums.{SumsOf, digit_count, lines_of}
use Rattle.it_digest.proofs.ArtifactsLemmas.{path_cmp}

abbrev pub Entry : Type 0
Entry = List ℕ × DigestSet

-- ---- lines

abbrev is_line_feed : ℕ → Bool
is_line_feed byte = byte == 10

-- one more byte in front of the first line
lines_of-onto_first : (byte n : ℕ) (rest : List ℕ) → lines_of rest ≡ take n rest ∷ lines_of
    (drop (n + 1) rest) → onto_first byte (lines_of rest) ≡ take (1 + n) (byte ∷ rest) ∷ lines_of
    (drop (1 + n + 1) (byte ∷ rest))
lines_of-onto_first byte n rest h =
    let front : suc n ≡ 1 + n = omega arith in
    let back : suc (n + 1) ≡ 1 + n + 1 = omega arith in
    ap (onto_first byte) h
    ∙ (λ i. take (front i) (byte ∷ rest) ∷ lines_of (drop (back i) (byte ∷ rest)))

-- the first line ends at the first line feed, or with the bytes
lines_of-first : (byte : ℕ) (rest : List ℕ) → lines_of (byte ∷ rest) ≡ take
    (position_or_len is_line_feed (byte ∷ rest)) (byte ∷ rest) ∷ lines_of
    (drop (position_or_len is_line_feed (byte ∷ rest) + 1) (byte ∷ rest))
lines_of-first byte [] =
    elim (byte == 10) as (λ b. cond b ([] ∷ []) ((byte ∷ []) ∷ []) ≡ take (cond (not b) 1 0)
    (byte ∷ []) ∷ lines_of (drop (cond (not b) 1 0 + 1) (byte ∷ []))) [ true ↦ refl | false ↦ refl ]
lines_of-first byte (next ∷ rest) =
    let n = position_or_len is_line_feed (next ∷ rest) in
    elim (byte == 10) as (λ b. cond b ([] ∷ lines_of (next ∷ rest))
    (onto_first byte (lines_of (next ∷ rest))) ≡ take (cond (not b) (1 + n) 0)
    (byte ∷ next ∷ rest) ∷ lines_of (drop (cond (not b) (1 + n) 0 + 1) (byte ∷ next ∷ rest))) [
      | true ↦ refl
      | false ↦ lines_of-onto_first byte n (next ∷ rest) (lines_of-first next rest)
    ]

at_or_past : (n m end : ℕ) → cond (nat_lt n m) (Some n) None ≡ Some end → n ≡ end
at_or_past n m end = elim (nat_lt n m) as (λ b. cond b (Some n) None ≡ Some end → n ≡ end) [
  | true ↦ λ e. cc e
  | false ↦ λ e. cc e
]

past : (n m : ℕ) → ◌≡◌ {A = Option ℕ} (cond (nat_lt n m) (Some n) None) None → m ≤ n
past n m e = grind (arith)

pub lines_of-at : (text : List ℕ) (end : ℕ) → 0 < length text → position is_line_feed text
    ≡ Some end → lines_of text ≡ take end text ∷ lines_of (drop (end + 1) text)
lines_of-at [] end some at = absurd (omega arith)
lines_of-at (byte ∷ rest) end some at =
    subst (λ n. lines_of (byte ∷ rest) ≡ take n (byte ∷ rest) ∷ lines_of
    (drop (n + 1) (byte ∷ rest))) (at_or_past _ _ end at) (lines_of-first byte rest)

pub lines_of-none : (text : List ℕ) → 0 < length text → position is_line_feed text ≡ None
    → lines_of text ≡ text ∷ []
lines_of-none [] some none = absurd (omega arith)
lines_of-none (byte ∷ rest) some none =
    let n = position_or_len is_line_feed (byte ∷ rest) in
    let all : length (byte ∷ rest) ≤ n = past _ _ none in
    let front = take_all n (byte ∷ rest) all in
    let back = drop_all (n + 1) (byte ∷ rest) (omega arith) in
    lines_of-first byte rest ∙ (λ i. front i ∷ lines_of (back i))

-- ---- one line

abbrev pub Cut : Type 0
Cut = DigestSet × List ℕ

digits_of : (algorithm : Algorithm) (line : List ℕ) (cut : Cut) (h : IsCut algorithm line cut)
    → take (digit_count algorithm) line ≡ h.digits
digits_of algorithm line cut h =
    ap (take (digit_count algorithm)) h.written ∙ ap (λ n. take n (h.digits ++ cut.1))
    (sym h.digits_many) ∙ take-append_seam h.digits cut.1

text_of : (algorithm : Algorithm) (line : List ℕ) (cut : Cut) → IsCut algorithm line cut
    → drop (digit_count algorithm) line ≡ cut.1
text_of algorithm line cut h = ap (drop (digit_count algorithm)) h.written
    ∙ drop_at h.digits cut.1 (digit_count algorithm) h.digits_many

-- a line is cut in one way at most
same_cut : (algorithm : Algorithm) (line : List ℕ) (a b : Cut) → IsCut algorithm line a
    → IsCut algorithm line b → a ≡ b
same_cut algorithm line a b h k =
    let digests : Some h.digest ≡ Some k.digest = sym h.digest_is ∙ ap hexadecimal_decoded
    (sym (digits_of algorithm line a h) ∙ digits_of algorithm line b k) ∙ k.digest_is in
    let same : h.digest ≡ k.digest = cc digests in
    let sets : a.0 ≡ b.0 = h.digests_are ∙ ap (only algorithm) same ∙ sym k.digests_are in
    let texts : a.1 ≡ b.1 = sym (text_of algorithm line a h) ∙ text_of algorithm line b k in
    λ i. (sets i, texts i)

pub cut_read : (algorithm : Algorithm) (line digits text digest : List ℕ)
    → digits ≡ take (digit_count algorithm) line → text ≡ drop (digit_count algorithm) line
    → digit_count algorithm ≤ length line → Some digest ≡ hexadecimal_decoded digits
    → IsCut algorithm line (only algorithm digest, text)
cut_read algorithm line digits text digest front back long digest_is =
    record {
      digits = digits;
      digest = digest;
      written = sym (take-append-drop (digit_count algorithm) line)
          ∙ (λ i. sym front i ++ sym back i);
      digits_many = ap length front ∙ length-take-le (digit_count algorithm) line long;
      digest_is = sym digest_is;
      digests_are = refl;
    }

pub long_enough : (algorithm : Algorithm) (line : List ℕ) (cut : Cut) → IsCut algorithm line cut
    → digit_count algorithm ≤ length line
long_enough algorithm line cut h =
    omega (arith, ap length h.written, length-append h.digits cut.1, h.digits_many)

pub no_digest : (algorithm : Algorithm) (line digits : List ℕ)
    → digits ≡ take (digit_count algorithm) line → None ≡ hexadecimal_decoded digits
    → (cut : Cut) → ¬ IsCut algorithm line cut
no_digest algorithm line digits front none cut h =
    let found : None ≡ Some h.digest = none
    ∙ ap hexadecimal_decoded (front ∙ digits_of algorithm line cut h) ∙ h.digest_is in
    cc found

pub path_of : (text path : List ℕ) → IsMarkedPath text path → drop 2 text ≡ path
path_of text path h = elim h.written [ inl e ↦ ap (drop 2) e | inr e ↦ ap (drop 2) e ]

-- a line gives one entry at most
pub same_sum : (algorithm : Algorithm) (line : List ℕ) (e f : Entry) → IsSum algorithm line e
    → IsSum algorithm line f → e ≡ f
same_sum algorithm line e f h k =
    let cuts = same_cut algorithm line (e.1, h.text) (f.1, k.text) h.cut k.cut in
    let paths : e.0 ≡ f.0 = sym (path_of h.text e.0 h.path_is) ∙ ap (λ (c : Cut). drop 2 c.1) cuts
    ∙ path_of k.text f.0 k.path_is in
    let sets : e.1 ≡ f.1 = ap (λ (c : Cut). c.0) cuts in
    λ i. (paths i, sets i)

pub no_sum : (algorithm : Algorithm) (line : List ℕ) → ((cut : Cut) → ¬ IsCut algorithm line cut)
    → (e : Entry) → ¬ IsSum algorithm line e
no_sum algorithm line none e h = none (e.1, h.text) h.cut

pub no_path : (algorithm : Algorithm) (line : List ℕ) (cut : Cut) → IsCut algorithm line cut
    → ((path : List ℕ) → ¬ IsMarkedPath cut.1 path) → (e : Entry) → ¬ IsSum algorithm line e
no_path algorithm line cut is none e h = none e.0 (subst (λ (c : Cut). IsMarkedPath c.1 e.0)
    (same_cut algorithm line (e.1, h.text) cut h.cut is) h.path_is)

-- ---- a line and the map before it

pub AddsSum-or_nothing : (algorithm : Algorithm) (line path : List ℕ) (digests : DigestSet)
    (old new : ArtifactMap)
    (before : Option DigestSet) (r : Bool) → IsSum algorithm line (path, digests)
    → before ≡ get old path
    → new ≡ insert old path digests → is_some before ≡ not r
    → MatchBool r (AddsSum algorithm line old new) (AddsNothing algorithm line old)
AddsSum-or_nothing algorithm line path digests old new None true is looked put variant = record {
  entry = (path, digests);
  is_sum = is;
  is_new = sym looked;
  added = put;
}
AddsSum-or_nothing algorithm line path digests old new None false is looked put variant = cc variant
AddsSum-or_nothing algorithm line path digests old new
    (Some v) true is looked put variant = cc variant
AddsSum-or_nothing algorithm line path digests old new
    (Some v) false is looked put variant = λ e other none.
    let found : Some v ≡ None = looked ∙ ap (λ (f : Entry). get old f.0)
    (same_sum algorithm line (path, digests) e is other) ∙ none in
    cc found

-- ---- lines and entries, one each

module _ {A B : Type 0} (R : A → B → Type 0) where
  AllZip_same : ((x : A) (y z : B) → R x y → R x z → y ≡ z) → (xs : List A) (ys zs : List B)
      → AllZip R xs ys → AllZip R xs zs → ys ≡ zs
  AllZip_same one [] [] [] h k = refl
  AllZip_same one [] [] (z ∷ zs) h k = absurd k
  AllZip_same one [] (y ∷ ys) zs h k = absurd h
  AllZip_same one (x ∷ xs) [] zs h k = absurd h
  AllZip_same one (x ∷ xs) (y ∷ ys) [] h k = absurd k
  AllZip_same one (x ∷ xs) (y ∷ ys) (z ∷ zs) h k =
      λ i. one x y z h.0 k.0 i ∷ AllZip_same one xs ys zs h.1 k.1 i

  AllZip-one_more : (xs : List A) (ys : List B) (x : A) (y : B) → AllZip R xs ys → R x y
      → AllZip R (xs ++ x ∷ []) (ys ++ y ∷ [])
  AllZip-one_more [] [] x y h r = (r, tt)
  AllZip-one_more [] (b ∷ ys) x y h r = absurd h
  AllZip-one_more (a ∷ xs) [] x y h r = absurd h
  AllZip-one_more (a ∷ xs) (b ∷ ys) x y h r = (h.0, AllZip-one_more xs ys x y h.1 r)

  -- what the first of some lines give, and what the others do
  AllZip_parts : (xs more : List A) (zs : List B) → AllZip R (xs ++ more) zs → (front : List B)
      × (back : List B) × (zs ≡ front ++ back) × AllZip R xs front × AllZip R more back
  AllZip_parts [] more zs h = ([], zs, refl, tt, h)
  AllZip_parts (x ∷ xs) more [] h = absurd h
  AllZip_parts (x ∷ xs) more (z ∷ zs) h =
      let p = AllZip_parts xs more zs h.1 in
      (z ∷ p.0, p.1, ap (λ l. z ∷ l) p.2, (h.0, p.3), p.4)

  AllZip_one : (x : A) (zs : List B) → AllZip R (x ∷ []) zs → (z : B) × (zs ≡ z ∷ []) × R x z
  AllZip_one x [] h = absurd h
  AllZip_one x (z ∷ []) h = (z, refl, h.0)
  AllZip_one x (z ∷ y ∷ zs) h = absurd h.1

-- ---- no path twice

abbrev PathsDiffer : Entry → Entry → Type 0
PathsDiffer e f = e.0 ≢ f.0

AllPairs-front : (es fs : List Entry) → AllPairs PathsDiffer (es ++ fs) → AllPairs PathsDiffer es
AllPairs-front es fs h i j d below within =
    let longer : j < length (es ++ fs) = simp length-append (omega arith) in
    let first : i < length es = omega arith in
    rw (get_or-append es fs d i first, get_or-append es fs d j within) at (h i j d below longer)

pub same_path : (p q : List ℕ) → eq_by_cmp path_cmp p q ≡ true → p ≡ q
same_path p q e = slice_cmp-IsAntisymmetric nat_cmp-IsAntisymmetric p q
    ((Equal-is (path_cmp p q)).0 e)

none_later : (b : Bool) (x : DigestSet) (r : Option DigestSet) → cond b (Some x) r ≡ None → r ≡ None
none_later true x r e = cc e
none_later false x r e = e

-- a path that is not found differs from each, and one that differs from each is not found
differs_from_each : (q : List ℕ) (es : List Entry) → find path_cmp q es ≡ None → (k : ℕ) (d : Entry)
    → k < length es → (get_or es k d).0 ≢ q
differs_from_each q [] none k d below = absurd (omega arith)
differs_from_each q (e ∷ es) none zero d below = λ same.
    let tied : eq_by_cmp path_cmp q e.0 ≡ true =
    rw same ((eq_by_cmp_equiv nat_list_cmp_total).refl q) in
    let found : cond true (Some e.1) (find path_cmp q es) ≡ None = rw tied at none in
    cc found
differs_from_each q (e ∷ es) none (suc k) d below =
    differs_from_each q es (none_later (eq_by_cmp path_cmp q e.0) e.1 (find path_cmp q es) none) k d
    (omega arith)

none_from_differing : (q : List ℕ) (es : List Entry)
    → ((k : ℕ) (d : Entry) → k < length es → (get_or es k d).0 ≢ q) → find path_cmp q es ≡ None
none_from_differing q [] differs = refl
none_from_differing q (e ∷ es) differs =
    elim (eq_by_cmp path_cmp q e.0) as (λ b. eq_by_cmp path_cmp q e.0 ≡ b
    → cond b (Some e.1) (find path_cmp q es) ≡ None) [
      | true ↦ λ tied. absurd (differs 0 e (omega arith) (sym (same_path q e.0 tied)))
      | false ↦ λ _. none_from_differing q es (λ k d below. differs (suc k) d (omega arith))
    ] refl

-- ---- one more line

AreSums-more : (algorithm : Algorithm) (lines : List (List ℕ)) (es : List Entry) (line : List ℕ)
    (e : Entry)
    → AreSums algorithm lines es → IsSum algorithm line e → get
    (from_entries {R = path_cmp} es) e.0 ≡ None
    → AreSums algorithm (lines ++ line ∷ []) (es ++ e ∷ [])
AreSums-more algorithm lines es line e h is none =
    record {
      each_gives = AllZip-one_more (IsSum algorithm) lines es line e h.each_gives is;
      paths_differ = all_pairs_push PathsDiffer es e h.paths_differ
          (differs_from_each e.0 es (sym (get-from_entries nat_list_cmp_total es e.0) ∙ none));
    }

AreSums-front : (algorithm : Algorithm) (lines more : List (List ℕ)) (es : List Entry)
    → AreSums algorithm (lines ++ more) es
    → (front : List Entry) × AreSums algorithm lines front
AreSums-front algorithm lines more es h =
    let p = AllZip_parts (IsSum algorithm) lines more es h.each_gives in
    let pairs : AllPairs PathsDiffer (p.0 ++ p.1) =
    subst (AllPairs PathsDiffer) p.2 h.paths_differ in
    (p.0, record { each_gives = p.3; paths_differ = AllPairs-front p.0 p.1 pairs })

AreSums_same : (algorithm : Algorithm) (lines : List (List ℕ)) (es fs : List Entry)
    → AreSums algorithm lines es → AreSums algorithm lines fs
    → es ≡ fs
AreSums_same algorithm lines es fs h k = AllZip_same (IsSum algorithm)
    (same_sum algorithm) lines es fs h.each_gives k.each_gives

AllPairs-last : (es : List Entry) (f : Entry) → AllPairs PathsDiffer (es ++ f ∷ [])
    → (k : ℕ) (d : Entry) → k < length es → (get_or es k d).0 ≢ f.0
AllPairs-last es f h k d below =
    let within : length es < length (es ++ f ∷ []) = simp length-append (omega arith) in
    rw (get_or-append es (f ∷ []) d k below, get_or-append_seam es f [] d) at
    (h k (length es) d below within)

-- a line that adds nothing is bad
not_AreSums : (algorithm : Algorithm) (lines : List (List ℕ)) (es : List Entry) (line : List ℕ)
    → AreSums algorithm lines es
    → AddsNothing algorithm line (from_entries es) → (more : List Entry)
    → ¬ AreSums algorithm (lines ++ line ∷ []) more
not_AreSums algorithm lines es line h nothing more k =
    let p = AllZip_parts (IsSum algorithm) lines (line ∷ []) more k.each_gives in
    let last = AllZip_one (IsSum algorithm) line p.1 p.4 in
    let same : p.0 ≡ es = AllZip_same (IsSum algorithm)
    (same_sum algorithm) lines p.0 es p.3 h.each_gives in
    let pairs : AllPairs PathsDiffer (es ++ last.0 ∷ []) =
    subst (AllPairs PathsDiffer) (p.2 ∙ ap (λ l. l ++ p.1) same ∙ ap (λ l. es ++ l) last.1)
    k.paths_differ in
    nothing last.0 last.2 (get-from_entries nat_list_cmp_total es last.0.0
    ∙ none_from_differing last.0.0 es (AllPairs-last es last.0 pairs))

-- ---- the lines read so far

-- some lines were read, and these are left
pub record HasRead (algorithm : Algorithm) (bytes : List ℕ) (left : List (List ℕ))
    (sums : ArtifactMap)
    (number : ℕ) : Type 0 where
  pub lines : List (List ℕ)
  pub entries : List Entry
  pub lines_are : lines_of bytes ≡ lines ++ left
  pub number_is : number ≡ length lines
  pub are_sums : AreSums algorithm lines entries
  pub sums_are : sums ≡ from_entries entries

pub HasRead-none : (algorithm : Algorithm) (bytes : List ℕ) → HasRead algorithm bytes
    (lines_of bytes) empty 0
HasRead-none algorithm bytes = record {
  lines = [];
  entries = [];
  lines_are = refl;
  number_is = refl;
  are_sums = record {
    each_gives = tt;
    paths_differ = λ i j d below within. absurd (omega arith);
  };
  sums_are = refl;
}

pub HasRead-more : (algorithm : Algorithm) (bytes line : List ℕ) (left after : List (List ℕ))
    (sums new : ArtifactMap)
    (number : ℕ) → HasRead algorithm bytes left sums number → left ≡ line ∷ after
    → AddsSum algorithm line sums new
    → HasRead algorithm bytes after new (number + 1)
HasRead-more algorithm bytes line left after sums new number h split adds =
    let e = adds.entry in
    let none : get (from_entries {R = path_cmp} h.entries) e.0 ≡ None =
    ap (λ m. get m e.0) (sym h.sums_are) ∙ adds.is_new in
    record {
      lines = h.lines ++ line ∷ [];
      entries = h.entries ++ e ∷ [];
      lines_are = h.lines_are ∙ ap (λ l. h.lines ++ l) split
          ∙ sym (append_assoc h.lines (line ∷ []) after);
      number_is = simp length-append (omega (arith, h.number_is));
      are_sums = AreSums-more algorithm h.lines h.entries line e h.are_sums adds.is_sum none;
      sums_are = adds.added ∙ ap (λ m. insert m e.0 e.1) h.sums_are
          ∙ sym (from_entries_push nat_list_cmp_total
          (slice_cmp-IsAntisymmetric nat_cmp-IsAntisymmetric) h.entries e.0 e.1
          (sym (get-from_entries nat_list_cmp_total h.entries e.0) ∙ none));
    }

pub HasRead-all : (algorithm : Algorithm) (bytes : List ℕ) (sums : ArtifactMap) (number : ℕ)
    → HasRead algorithm bytes [] sums number
    → SumsOf algorithm bytes sums
HasRead-all algorithm bytes sums number h = record {
  entries = h.entries;
  are_sums = subst (λ lines. AreSums algorithm lines h.entries)
      (sym (h.lines_are ∙ append-nil h.lines)) h.are_sums;
  map_is = h.sums_are;
}

pub HasRead-bad : (algorithm : Algorithm) (bytes line : List ℕ) (left after : List (List ℕ))
    (sums : ArtifactMap)
    (number : ℕ) → HasRead algorithm bytes left sums number → left ≡ line ∷ after
    → AddsNothing algorithm line sums
    → IsFirstBadLine algorithm bytes (number + 1)
HasRead-bad algorithm bytes line left after sums number h split nothing =
    let whole : lines_of bytes ≡ h.lines ++ line ∷ after = h.lines_are
    ∙ ap (λ l. h.lines ++ l) split in
    let fewer : number + 1 - 1 ≡ length h.lines = omega (arith, h.number_is) in
    let more_by_one : number + 1 ≡ length h.lines + 1 = omega (arith, h.number_is) in
    let before : take (number + 1 - 1) (lines_of bytes) ≡ h.lines =
    rw (fewer, whole) (take-append_seam h.lines (line ∷ after)) in
    let with_it : take (number + 1) (lines_of bytes) ≡ h.lines ++ line ∷ [] =
    rw (more_by_one, whole) (take-append-add h.lines (line ∷ after) 1) in
    record {
      entries = h.entries;
      good_before = subst (λ lines. AreSums algorithm lines h.entries) (sym before) h.are_sums;
      bad = λ more k. not_AreSums algorithm h.lines h.entries line h.are_sums
          (subst (AddsNothing algorithm line) h.sums_are nothing) more
          (subst (λ lines. AreSums algorithm lines more) with_it k);
    }

-- ---- what a digest list stands for

pub SumsOf_same : (algorithm : Algorithm) (bytes : List ℕ) (sums other : ArtifactMap)
    → SumsOf algorithm bytes sums
    → SumsOf algorithm bytes other → other ≡ sums
SumsOf_same algorithm bytes sums other h k = k.map_is ∙ ap (λ es. from_entries {R = path_cmp} es)
    (AreSums_same algorithm (lines_of bytes) k.entries h.entries k.are_sums h.are_sums)
    ∙ sym h.map_is

pub IsFirstBadLine-none : (algorithm : Algorithm) (bytes : List ℕ) (number : ℕ)
    → IsFirstBadLine algorithm bytes number
    → (sums : ArtifactMap) → ¬ SumsOf algorithm bytes sums
IsFirstBadLine-none algorithm bytes number h sums k =
    let front = AreSums-front algorithm (take number (lines_of bytes)) (drop number
    (lines_of bytes))
    k.entries (rw take-append-drop k.are_sums) in
    h.bad front.0 front.1

-- a line before the first bad one is not the first bad one
no_earlier : (algorithm : Algorithm) (bytes : List ℕ) (m n : ℕ)
    → IsFirstBadLine algorithm bytes m → IsFirstBadLine algorithm bytes n
    → ¬ (m < n)
no_earlier algorithm bytes m n h k less =
    let front = take (n - 1) (lines_of bytes) in
    let parts : take m (lines_of bytes) ++ drop m front ≡ front =
    ap (λ xs. xs ++ drop m front)
    (sym (take-take m (n - 1) (lines_of bytes) (omega (arith, less))))
    ∙ take-append-drop m front in
    let good = AreSums-front algorithm (take m (lines_of bytes)) (drop m front) k.entries
    (subst (λ xs. AreSums algorithm xs k.entries) (sym parts) k.good_before) in
    h.bad good.0 good.1

pub bad_line_one : (algorithm : Algorithm) (bytes : List ℕ) (m n : ℕ)
    → IsFirstBadLine algorithm bytes m → IsFirstBadLine algorithm bytes n
    → m ≡ n
bad_line_one algorithm bytes m n h k =
    let up : ¬ (m < n) = no_earlier algorithm bytes m n h k in
    let down : ¬ (n < m) = no_earlier algorithm bytes n m k h in
    omega arith
