-- Bytes are a certificate with what its parts hold in at most one way.
use Rattle.std.proofs.Common.{◌≡◌, ℕ, inl, inr, ℤ, List, [], ◌∷◌, ◌++◌, length, get_or, drop}
use Rattle.std.proofs.Common.{Bool, Option, Some, None, refl, sym, ap, subst, ◌∙◌, arith}
use Rattle.it_der.specs.Element.{Tagged}
use Rattle.it_der.proofs.Reading.{one_reading}
use Rattle.it_certificate.specs.Algorithm.{algorithm_content}
use Rattle.it_certificate.specs.Certificate.{AreOf, CertificateOf, Facts}
use Rattle.it_certificate.specs.Constraints.{IsConstraints, IsConstraintsContent}
use Rattle.it_certificate.specs.Extension.{Stated}
use Rattle.it_certificate.specs.Identifiers.{key_usage, basic_constraints, extended_key_usage}
use Rattle.it_certificate.specs.Known.{AreKnown}
use Rattle.it_certificate.specs.Parts.{Parts}
use Rattle.it_certificate.specs.Purposes.{ArePurposes, IsPurposes}
use Rattle.it_certificate.specs.SubjectKey.{key_algorithm, before_coordinates}
use Rattle.it_certificate.specs.Time.{IsAfterYear, ShortTime, LongTime, TimeOf, short_year}
use Rattle.it_certificate.specs.Usage.{AreUsageBits, IsUsage, IsUsageContent}
use Rattle.it_certificate.specs.Validity.{AreTimes}
use Rattle.it_certificate.specs.Values.{value_of}
use Rattle.it_certificate.specs.Within.{Wraps, Lists, IfThere}
use Rattle.it_certificate.specs.declared.algorithm.Algorithm.{Algorithm}
use Rattle.it_certificate.specs.declared.algorithm.Algorithm.TheVariants.{WithSha256, WithSha384}
use Rattle.it_certificate.specs.declared.constraints.Constraints.{Constraints}
use Rattle.it_certificate.specs.declared.constraints.Constraints.TheVariants.{NoAuthority, Authority}
use Rattle.it_certificate.specs.declared.known.Known.{Known}
use Rattle.it_certificate.specs.declared.purposes.Purposes.{Purposes}
use Rattle.it_certificate.specs.declared.subject_key.Curve.{Curve}
use Rattle.it_certificate.specs.declared.subject_key.Curve.TheVariants.{P256, P384}
use Rattle.it_certificate.specs.declared.time.Moment.{Moment}
use Rattle.it_certificate.specs.declared.usage.Usage.{Usage}
use Rattle.it_certificate.specs.declared.validity.Validity.{Validity}
use Rattle.it_certificate.proofs.OneWay.{one_certificate, one_content}
use Rattle.it_certificate.proofs.Stating.{one_list}
use Rattle.it_certificate.proofs.Times.{same_moment}

one_algorithm : (a b : Algorithm) → algorithm_content a ≡ algorithm_content b → a ≡ b
one_algorithm WithSha256 WithSha256 e = refl
one_algorithm WithSha256 WithSha384 e = let last : ◌≡◌ {A = ℕ} 2 3 = ap (λ (l : List ℕ). get_or l 9 0) e in absurd (omega arith)
one_algorithm WithSha384 WithSha256 e = let last : ◌≡◌ {A = ℕ} 3 2 = ap (λ (l : List ℕ). get_or l 9 0) e in absurd (omega arith)
one_algorithm WithSha384 WithSha384 e = refl

same_key : (one two : Curve) (xs ys : List ℕ)
    → key_algorithm one ++ before_coordinates one ++ xs ≡ key_algorithm two ++ before_coordinates two ++ ys → (one ≡ two) × (xs ≡ ys)
same_key P256 P256 xs ys e = (refl, ap (λ (l : List ℕ). drop 25 l) e)
same_key P256 P384 xs ys e = let size : ◌≡◌ {A = ℕ} 19 16 = ap (λ (l : List ℕ). get_or l 1 0) e in absurd (omega arith)
same_key P384 P256 xs ys e = let size : ◌≡◌ {A = ℕ} 16 19 = ap (λ (l : List ℕ). get_or l 1 0) e in absurd (omega arith)
same_key P384 P384 xs ys e = (refl, ap (λ (l : List ℕ). drop 22 l) e)

one_short : (content : List ℕ) (x y : ℤ) → ShortTime content x → ShortTime content y → x ≡ y
one_short content x y is js =
    let texts = sym is.content_is ∙ js.content_is in
    let e0 = ap (λ (l : List ℕ). get_or l 0 0) texts in
    let e1 = ap (λ (l : List ℕ). get_or l 1 0) texts in
    let digits : is.digits ≡ js.digits = omega arith in
    let text : is.text ≡ js.text = ap (λ (l : List ℕ). drop 2 l) texts in
    same_moment (short_year js.digits) js.text x y
    (subst (λ (n : ℕ). IsAfterYear (short_year n) js.text x) digits
    (subst (λ (t : List ℕ). IsAfterYear (short_year is.digits) t x) text is.text_is)) js.text_is

one_long : (content : List ℕ) (x y : ℤ) → LongTime content x → LongTime content y → x ≡ y
one_long content x y is js =
    let texts = sym is.content_is ∙ js.content_is in
    let e0 = ap (λ (l : List ℕ). get_or l 0 0) texts in
    let e1 = ap (λ (l : List ℕ). get_or l 1 0) texts in
    let e2 = ap (λ (l : List ℕ). get_or l 2 0) texts in
    let e3 = ap (λ (l : List ℕ). get_or l 3 0) texts in
    let year : is.year ≡ js.year = omega arith in
    let text : is.text ≡ js.text = ap (λ (l : List ℕ). drop 4 l) texts in
    same_moment js.year js.text x y
    (subst (λ (n : ℕ). IsAfterYear n js.text x) year
    (subst (λ (t : List ℕ). IsAfterYear is.year t x) text is.text_is)) js.text_is

one_time : (tag : ℕ) (content : List ℕ) (x y : ℤ) → TimeOf tag content x → TimeOf tag content y → x ≡ y
one_time tag content x y (inl p) (inl q) = one_short content x y p.1 q.1
one_time tag content x y (inl p) (inr q) = let a = p.0 in let b = q.0 in absurd (omega arith)
one_time tag content x y (inr p) (inl q) = let a = p.0 in let b = q.0 in absurd (omega arith)
one_time tag content x y (inr p) (inr q) = one_long content x y p.1 q.1

moment_made : ℤ → Moment
moment_made seconds = record { seconds = seconds }

validity_made : Moment → Moment → Validity
validity_made first last = record { first = first; last = last }

one_validity : (elements : List Tagged) (v w : Validity) → AreTimes elements v → AreTimes elements w → v ≡ w
unfolding moment_made validity_made
one_validity [] v w one two = absurd one
one_validity (a ∷ []) v w one two = absurd one
one_validity (a ∷ b ∷ []) v w one two =
    let first : v.first ≡ w.first = ap moment_made (one_time a.tag a.content v.first.seconds w.first.seconds one.0 two.0) in
    let last : v.last ≡ w.last = ap moment_made (one_time b.tag b.content v.last.seconds w.last.seconds one.1 two.1) in
    ap (λ (m : Moment). validity_made m v.last) first ∙ ap (λ (m : Moment). validity_made w.first m) last
one_validity (a ∷ b ∷ c ∷ rest) v w one two = absurd one

usage_made : Bool → Bool → Usage
usage_made signs certificates = record { signs = signs; signs_certificates = certificates }

one_bits : (unused first last : ℕ) (u v : Usage) → AreUsageBits unused first last u → AreUsageBits unused first last v → u ≡ v
unfolding usage_made
one_bits unused first last u v one two =
    ap (λ (b : Bool). usage_made b u.signs_certificates) (one.signs ∙ sym two.signs)
    ∙ ap (λ (b : Bool). usage_made v.signs b) (one.signs_certificates ∙ sym two.signs_certificates)

one_usage : (content : List ℕ) (u v : Usage) → IsUsageContent content u → IsUsageContent content v → u ≡ v
one_usage [] u v one two = absurd one
one_usage (a ∷ []) u v one two = absurd one
one_usage (a ∷ b ∷ []) u v one two = one_bits a b b u v one two
one_usage (a ∷ b ∷ c ∷ []) u v one two = one_bits a b c u v one two
one_usage (a ∷ b ∷ c ∷ d ∷ rest) u v one two = absurd one

purposes_made : Bool → Bool → Purposes
purposes_made code_signing any = record { code_signing = code_signing; any = any }

one_purposes : (elements : List Tagged) (p q : Purposes) → ArePurposes elements p → ArePurposes elements q → p ≡ q
unfolding purposes_made
one_purposes elements p q one two =
    ap (λ (b : Bool). purposes_made b p.any) (one.code_signing_is ∙ sym two.code_signing_is)
    ∙ ap (λ (b : Bool). purposes_made q.code_signing b) (one.any_is ∙ sym two.any_is)

one_constraints_content : (content : List ℕ) (c d : Constraints) → IsConstraintsContent c content → IsConstraintsContent d content → c ≡ d
one_constraints_content content NoAuthority NoAuthority one two = refl
one_constraints_content content NoAuthority (Authority None) one two = let e = ap length (sym one ∙ two) in absurd (omega arith)
one_constraints_content content NoAuthority (Authority (Some n)) one two = let e = ap length (sym one ∙ two.1) in absurd (omega arith)
one_constraints_content content (Authority None) NoAuthority one two = let e = ap length (sym one ∙ two) in absurd (omega arith)
one_constraints_content content (Authority None) (Authority None) one two = refl
one_constraints_content content (Authority None) (Authority (Some n)) one two = let e = ap length (sym one ∙ two.1) in absurd (omega arith)
one_constraints_content content (Authority (Some m)) NoAuthority one two = let e = ap length (sym one.1 ∙ two) in absurd (omega arith)
one_constraints_content content (Authority (Some m)) (Authority None) one two = let e = ap length (sym one.1 ∙ two) in absurd (omega arith)
one_constraints_content content (Authority (Some m)) (Authority (Some n)) one two =
    ap (λ (k : ℕ). Authority (Some k)) (ap (λ (l : List ℕ). get_or l 5 0) (sym one.1 ∙ two.1))

one_constraints : (value : List ℕ) (c d : Constraints) → IsConstraints value c → IsConstraints value d → c ≡ d
one_constraints value c d one two =
    one_constraints_content two.content c d
    (subst (λ (x : List ℕ). IsConstraintsContent c x) (one_content value one.content two.content one.whole two.whole) one.says) two.says

pub one_wrapped : {X : Type 0} (Is : List ℕ → X → Type 0) (tag : ℕ) → ((content : List ℕ) (x y : X) → Is content x → Is content y → x ≡ y)
    → (value : List ℕ) (x y : X) → Wraps tag Is value x → Wraps tag Is value y → x ≡ y
one_wrapped Is tag once value x y one two =
    once two.content x y (subst (λ (c : List ℕ). Is c x) (one_content value one.content two.content one.whole two.whole) one.says) two.says

one_listed : {X : Type 0} (Are : List Tagged → X → Type 0) → ((elements : List Tagged) (x y : X) → Are elements x → Are elements y → x ≡ y)
    → (value : List ℕ) (x y : X) → Lists Are value x → Lists Are value y → x ≡ y
one_listed Are once value x y one two =
    once two.elements x y (subst (λ (es : List Tagged). Are es x) (one_reading value one.elements two.elements one.are two.are) one.says) two.says

one_if_there : {X : Type 0} (Is : List ℕ → X → Type 0) → ((value : List ℕ) (x y : X) → Is value x → Is value y → x ≡ y)
    → (value : Option (List ℕ)) (x y : Option X) → IfThere Is value x → IfThere Is value y → x ≡ y
one_if_there Is once None None None one two = refl
one_if_there Is once None None (Some y) one two = absurd two
one_if_there Is once None (Some x) y one two = absurd one
one_if_there Is once (Some v) None y one two = absurd one
one_if_there Is once (Some v) (Some x) None one two = absurd two
one_if_there Is once (Some v) (Some x) (Some y) one two = ap Some (once v x y one two)

known_made : Option Usage → Option Constraints → Option Purposes → Known
known_made usage constraints purposes = record { usage = usage; constraints = constraints; purposes = purposes }

one_known : (extensions : List Stated) (k l : Known) → AreKnown extensions k → AreKnown extensions l → k ≡ l
unfolding known_made
one_known extensions k l one two =
    let usage : k.usage ≡ l.usage =
    one_if_there IsUsage (one_wrapped IsUsageContent 3 one_usage) (value_of key_usage extensions) k.usage l.usage one.usage two.usage in
    let constraints : k.constraints ≡ l.constraints =
    one_if_there IsConstraints one_constraints (value_of basic_constraints extensions) k.constraints l.constraints one.constraints two.constraints in
    let purposes : k.purposes ≡ l.purposes =
    one_if_there IsPurposes (one_wrapped (Lists ArePurposes) 48 (one_listed ArePurposes one_purposes))
    (value_of extended_key_usage extensions) k.purposes l.purposes one.purposes two.purposes in
    ap (λ (u : Option Usage). known_made u k.constraints k.purposes) usage
    ∙ ap (λ (c : Option Constraints). known_made l.usage c k.purposes) constraints
    ∙ ap (λ (p : Option Purposes). known_made l.usage l.constraints p) purposes

-- what the parts hold is one
pub record AreSameFacts (f g : Facts) : Type 0 where
  pub parts : f.parts ≡ g.parts
  pub signature : f.signature ≡ g.signature
  pub algorithm : f.algorithm ≡ g.algorithm
  pub validity : f.validity ≡ g.validity
  pub curve : f.curve ≡ g.curve
  pub coordinates : f.coordinates ≡ g.coordinates
  pub extensions : f.extensions ≡ g.extensions
  pub known : f.known ≡ g.known

facts_made : Parts → List ℕ → Algorithm → Validity → Curve → List ℕ → List Stated → Known → Facts
facts_made parts signature algorithm validity curve coordinates extensions known = record {
  parts = parts;
  signature = signature;
  algorithm = algorithm;
  validity = validity;
  curve = curve;
  coordinates = coordinates;
  extensions = extensions;
  known = known;
}

same_facts : (f g : Facts) → AreSameFacts f g → f ≡ g
unfolding facts_made
same_facts f g same =
    ap (λ (x : Parts). facts_made x f.signature f.algorithm f.validity f.curve f.coordinates f.extensions f.known) same.parts
    ∙ ap (λ (x : List ℕ). facts_made g.parts x f.algorithm f.validity f.curve f.coordinates f.extensions f.known) same.signature
    ∙ ap (λ (x : Algorithm). facts_made g.parts g.signature x f.validity f.curve f.coordinates f.extensions f.known) same.algorithm
    ∙ ap (λ (x : Validity). facts_made g.parts g.signature g.algorithm x f.curve f.coordinates f.extensions f.known) same.validity
    ∙ ap (λ (x : Curve). facts_made g.parts g.signature g.algorithm g.validity x f.coordinates f.extensions f.known) same.curve
    ∙ ap (λ (x : List ℕ). facts_made g.parts g.signature g.algorithm g.validity g.curve x f.extensions f.known) same.coordinates
    ∙ ap (λ (x : List Stated). facts_made g.parts g.signature g.algorithm g.validity g.curve g.coordinates x f.known) same.extensions
    ∙ ap (λ (x : Known). facts_made g.parts g.signature g.algorithm g.validity g.curve g.coordinates g.extensions x) same.known

one_held : (parts : Parts) (f g : Facts) → AreOf parts f → AreOf parts g → f.parts ≡ g.parts → f.signature ≡ g.signature → AreSameFacts f g
one_held parts f g one two same signature =
    let key = same_key f.curve g.curve f.coordinates g.coordinates (sym one.key.written ∙ two.key.written) in
    let extensions : f.extensions ≡ g.extensions = one_list parts.extensions f.extensions g.extensions one.extensions.are two.extensions.are in
    record {
      parts = same;
      signature = signature;
      algorithm = one_algorithm f.algorithm g.algorithm (sym one.algorithm ∙ two.algorithm);
      validity = one_listed AreTimes one_validity parts.validity f.validity g.validity one.validity two.validity;
      curve = key.0;
      coordinates = key.1;
      extensions = extensions;
      known = one_known g.extensions f.known g.known (subst (λ (es : List Stated). AreKnown es f.known) extensions one.extensions.known) two.extensions.known;
    }

pub one_facts : (bytes : List ℕ) (f g : Facts) → CertificateOf bytes f → CertificateOf bytes g → f ≡ g
one_facts bytes f g one two =
    let same = one_certificate bytes f.parts g.parts f.signature g.signature one.parts two.parts in
    same_facts f g (one_held g.parts f g (subst (λ (p : Parts). AreOf p f) same.0 one.says) two.says same.0 same.1)
