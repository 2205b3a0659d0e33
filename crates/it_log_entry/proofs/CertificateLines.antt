-- The lines of a PEM text of a certificate.
use Rattle.std.proofs.Common.{◌≡◌, ◌∙◌, ◌↔◌, ℕ, List, [], ◌∷◌, ◌++◌, Some, IsTrue, Bool}
use Rattle.std.proofs.Common.{refl, sym, ap, length, length-append, arith}
use Rattle.std.specs.Borrow.{Bor}
use Rattle.std.specs.List.{All, concat}
use Rattle.std.specs.Str.Lines.{lines}
use Rattle.std.proofs.lemmas.List.{map-append}
use Rattle.std.proofs.lemmas.List.Elements.{All-cons, All-head, All-tail}
use Rattle.base64.specs.Engines.{standard}
use Rattle.base64.specs.GeneralPurpose.{decoded_of}
use Rattle.it_pem.specs.PublicKeyText.{is_body_line}
use Rattle.it_log_entry.specs.CertificateText.{IsCertificateText, begin_mark, end_mark}
use Rattle.it_log_entry.specs.inside.Lines.{IsCertificateOf, texts_of}

push_same : {X : Type 0} (xs ys : List X) (x y : X) → xs ++ x ∷ [] ≡ ys ++ y ∷ []
    → (xs ≡ ys) × (x ≡ y)
push_same [] [] x y e = (refl, cc)
push_same [] (w ∷ ys) x y e =
    let long : 1 ≡ length ((w ∷ ys) ++ y ∷ []) = ap length e in
    absurd (omega (arith, length-append ys (y ∷ [])))
push_same (v ∷ xs) [] x y e =
    let long : length ((v ∷ xs) ++ x ∷ []) ≡ 1 = ap length e in
    absurd (omega (arith, length-append xs (x ∷ [])))
push_same (v ∷ xs) (w ∷ ys) x y e =
    let head : v ≡ w = cc in
    let tail : xs ++ x ∷ [] ≡ ys ++ y ∷ [] = cc in
    let rest = push_same xs ys x y tail in
    (let both : xs ≡ ys = rest.0 in cc, rest.1)

-- what the slices show, by their first and last
pub texts_cut : (lines others body : List (Bor (List ℕ))) (first last : Bor (List ℕ))
    → lines ≡ first ∷ others → others ≡ body ++ last ∷ []
    → texts_of lines ≡ first.now ∷ (texts_of body ++ last.now ∷ [])
texts_cut lines others body first last front back =
    ap texts_of (front ∙ ap (λ xs. first ∷ xs) back)
    ∙ ap (λ xs. first.now ∷ xs) (map-append (λ (line : Bor (List ℕ)). line.now) body (last ∷ []))

-- a certificate's lines are these
pub parts_are : (lines body : List (List ℕ)) (first last certificate : List ℕ)
    → lines ≡ first ∷ (body ++ last ∷ []) → (is : IsCertificateOf lines certificate)
    → (first ≡ begin_mark) × (last ≡ end_mark) × (body ≡ is.body)
parts_are lines body first last certificate cut is =
    let whole : first ∷ (body ++ last ∷ []) ≡ begin_mark ∷ (is.body ++ end_mark ∷ []) =
    sym cut ∙ is.lines_are in
    let head : first ≡ begin_mark = cc in
    let tail : body ++ last ∷ [] ≡ is.body ++ end_mark ∷ [] = cc in
    let rest = push_same body is.body last end_mark tail in
    (head, rest.1, rest.0)

-- the text between the marks decides
pub decided : (lines body : List (List ℕ)) (first last certificate joined : List ℕ) (b : Bool)
    → lines ≡ first ∷ (body ++ last ∷ []) → first ≡ begin_mark → last ≡ end_mark
    → All (λ line. IsTrue (is_body_line line)) body → joined ≡ concat body
    → IsTrue b ↔ (decoded_of standard joined ≡ Some certificate)
    → IsTrue b ↔ IsCertificateOf lines certificate
decided lines body first last certificate joined b cut begins ends each whole test = (
  λ passes. record {
    body = body;
    lines_are = cut ∙ (let head : first ≡ begin_mark = begins in let tail : last ≡ end_mark = ends in cc);
    body_lines = each;
    encoded = ap (decoded_of standard) (sym whole) ∙ test.0 passes;
  },
  λ is. let parts = parts_are lines body first last certificate cut is in
      test.1 (ap (decoded_of standard) (whole ∙ ap concat parts.2) ∙ is.encoded),
)

pub of_text : (text certificate : List ℕ) (all : List (List ℕ)) (b : Bool)
    → all ≡ lines text → IsTrue b ↔ IsCertificateOf all certificate
    → IsTrue b ↔ IsCertificateText text certificate
of_text text certificate all b same test = (
  λ passes. let is = test.0 passes in record {
    body = is.body;
    lines_are = sym same ∙ is.lines_are;
    body_lines = is.body_lines;
    encoded = is.encoded;
  },
  λ is. test.1 (record {
    body = is.body;
    lines_are = same ∙ is.lines_are;
    body_lines = is.body_lines;
    encoded = is.encoded;
  }),
)

-- what holds of all texts holds of the lines that show them
pub shown_all : (P : List ℕ → Type 0) (lines : List (Bor (List ℕ))) → All P (texts_of lines)
    → All (λ line. P line.now) lines
shown_all P [] h = λ k d below. absurd (omega arith)
shown_all P (line ∷ lines) h = All-cons (λ (l : Bor (List ℕ)). P l.now) line lines
    (All-head P line.now (texts_of lines) h)
    (shown_all P lines (All-tail P line.now (texts_of lines) h))
