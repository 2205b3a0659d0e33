-- What is found of a vector, by what was read of it.
use Rattle.std.proofs.Common.{◌≡◌, ◌↔◌, Bool, true, false, IsTrue, List, [], ◌∷◌, map, refl, sym, subst}
use Rattle.it_certificate.specs.Certificate.{CertificateOf, Facts, facts_of}
use Rattle.it_certificate.specs.declared.certificate.Certificate.{Certificate}
use Rattle.it_certificate.proofs.OneFacts.{one_facts}
use Rattle.std.proofs.Common.{None, slice_get}
use Rattle.it_issued.specs.Issued.{IsIssued, IsUsable}
use Rattle.it_issued.specs.Logged.{IsLogged}
use Rattle.it_issued.proofs.Reading.{one_way}
use Rattle.it_issued.proofs.Tests.{refused}
use Rattle.it_log.specs.declared.window.Window.{Window}
use Rattle.it_leaf_vectors.specs.Agreement.{Agrees, Issues, Promises}
use Rattle.it_leaf_vectors.specs.declared.vector.Vector.{Vector}

abbrev pub IsFound : Vector → Bool → Bool → Type 0
IsFound v issued logged = (IsTrue issued ↔ Issues v) × (IsTrue logged ↔ Promises v)

pub unusable : (v : Vector) → ((certificates : List Facts) → IsUsable v.authority certificates → ⊥) → IsFound v false false
unusable v none = (
  refused (Issues v) (λ is. none is.certificates is.usable),
  refused (Promises v) (λ is. none (is.issuer ∷ is.others) is.usable),
)

pub no_leaf : (v : Vector) → ((leaf : Facts) → CertificateOf v.leaf leaf → ⊥) → IsFound v false false
no_leaf v none = (refused (Issues v) (λ is. none is.leaf is.leaf_is), refused (Promises v) (λ is. none is.leaf is.leaf_is))

pub no_issuer : (v : Vector) (xs : List Certificate) → None ≡ slice_get xs 0 → IsUsable v.authority (map facts_of xs) → IsFound v false false
no_issuer v [] e is = absurd (is.authority_is.chain.some refl)
no_issuer v (x ∷ xs) e is = absurd (cc)

pub issues_is : (v : Vector) (certificates : List Facts) (leaf : Facts) (window : Window) (b : Bool) → IsUsable v.authority certificates
    → CertificateOf v.leaf leaf → window ≡ v.authority.window
    → IsTrue b ↔ IsIssued certificates window leaf v.wanted.moment → IsTrue b ↔ Issues v
issues_is v certificates leaf window b usable leaf_is window_is iff =
    let of : IsTrue b ↔ IsIssued certificates v.authority.window leaf v.wanted.moment =
    subst (λ (w : Window). IsTrue b ↔ IsIssued certificates w leaf v.wanted.moment) window_is iff in (
      λ t. record { certificates = certificates; leaf = leaf; usable = usable; leaf_is = leaf_is; issued = of.0 t },
      λ is.
          let theirs = subst (λ (f : Facts). IsIssued is.certificates v.authority.window f v.wanted.moment)
          (one_facts v.leaf is.leaf leaf is.leaf_is leaf_is) is.issued in
          of.1 (subst (λ (cs : List Facts). IsIssued cs v.authority.window leaf v.wanted.moment)
          (one_way v.authority.certificates is.certificates certificates is.usable.read usable.read) theirs),
    )

same_first : (f g : Facts) (fs gs : List Facts) → f ∷ fs ≡ g ∷ gs → f ≡ g
same_first f g fs gs e = cc

pub promises_is : (v : Vector) (issuer : Facts) (others : List Facts) (leaf : Facts) (b : Bool) → IsUsable v.authority (issuer ∷ others)
    → CertificateOf v.leaf leaf → IsTrue b ↔ IsLogged v.logs issuer leaf → IsTrue b ↔ Promises v
promises_is v issuer others leaf b usable leaf_is iff = (
  λ t. record { issuer = issuer; others = others; leaf = leaf; usable = usable; leaf_is = leaf_is; logged = iff.0 t },
  λ is.
      let theirs = subst (λ (f : Facts). IsLogged v.logs is.issuer f) (one_facts v.leaf is.leaf leaf is.leaf_is leaf_is) is.logged in
      let same = one_way v.authority.certificates (is.issuer ∷ is.others) (issuer ∷ others) is.usable.read usable.read in
      iff.1 (subst (λ (f : Facts). IsLogged v.logs f leaf) (same_first is.issuer issuer is.others others same) theirs),
)

-- two tests of one fact
same_test : (P : Type 0) (a b : Bool) → IsTrue a ↔ P → IsTrue b ↔ P → a ≡ b
same_test P true true one two = refl
same_test P true false one two = sym (two.1 (one.0 refl))
same_test P false true one two = one.1 (two.0 refl)
same_test P false false one two = refl

pub agrees_is : (v : Vector) (issued logged b : Bool) → IsFound v issued logged
    → IsTrue b ↔ ((issued ≡ v.wanted.issued) × (logged ≡ v.wanted.logged)) → IsTrue b ↔ Agrees v
agrees_is v issued logged b found iff = (
  λ t.
      let same = iff.0 t in
      record {
        issued = subst (λ (x : Bool). IsTrue x ↔ Issues v) same.0 found.0;
        logged = subst (λ (x : Bool). IsTrue x ↔ Promises v) same.1 found.1;
      },
  λ agrees. iff.1 (
    same_test (Issues v) issued v.wanted.issued found.0 agrees.issued,
    same_test (Promises v) logged v.wanted.logged found.1 agrees.logged,
  ),
)
