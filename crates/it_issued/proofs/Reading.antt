-- The certificates of an authority, as they are read.
use Rattle.std.proofs.Common.{◌≡◌, ℕ, zero, suc, ◌+◌, ◌<◌, ◌≤◌, List, [], ◌∷◌, ◌++◌, length, get_or, take, map}
use Rattle.std.proofs.Common.{All, refl, sym, ap, subst, ◌∙◌, arith}
use Rattle.std.specs.List.{AllZip}
use Rattle.std.proofs.lemmas.List.{map-append, take_all, take_more}
use Rattle.std.proofs.lemmas.List.Elements.{All-push}
use Rattle.it_certificate.specs.Certificate.{CertificateOf, Facts, facts_of}
use Rattle.it_certificate.specs.Parts.{parts_of, signed_bytes}
use Rattle.it_certificate.specs.declared.certificate.Certificate.{Certificate}
use Rattle.it_certificate.proofs.OneFacts.{one_facts}
use Rattle.it_certificate_log.specs.Bare.{WasRead}

abbrev pub Reads : List (List ℕ) → List Facts → Type 0
Reads listed facts = AllZip CertificateOf listed facts

-- what is read of some bytes so far
pub record AreRead (listed : List (List ℕ)) (read : List Certificate) : Type 0 where
  pub each : Reads listed (map facts_of read)
  pub all : All WasRead read

reads_more : (listed : List (List ℕ)) (facts : List Facts) (bytes : List ℕ) (f : Facts) → Reads listed facts → CertificateOf bytes f
    → Reads (listed ++ bytes ∷ []) (facts ++ f ∷ [])
reads_more [] [] bytes f each is = (is, tt)
reads_more [] (g ∷ gs) bytes f each is = absurd each
reads_more (b ∷ bs) [] bytes f each is = absurd each
reads_more (b ∷ bs) (g ∷ gs) bytes f each is = (each.0, reads_more bs gs bytes f each.1 is)

pub read_more : (listed : List (List ℕ)) (i : ℕ) (bytes : List ℕ) (done new : List Certificate) (c : Certificate) → i < length listed
    → bytes ≡ get_or listed i bytes → AreRead (take i listed) done → CertificateOf bytes (facts_of c)
    → c.parts.signed.now ≡ signed_bytes (parts_of c.parts) → new ≡ done ++ c ∷ [] → AreRead (take (i + 1) listed) new
read_more listed i bytes done new c below is before read signed after =
    let front : take (i + 1) listed ≡ take i listed ++ bytes ∷ [] =
    take_more listed i bytes below ∙ ap (λ (b : List ℕ). take i listed ++ b ∷ []) (sym is) in
    let back : map facts_of new ≡ map facts_of done ++ facts_of c ∷ [] =
    ap (λ (l : List Certificate). map facts_of l) after ∙ map-append facts_of done (c ∷ []) in
    record {
      each = subst (λ (l : List (List ℕ)). Reads l (map facts_of new)) (sym front)
          (subst (λ (l : List Facts). Reads (take i listed ++ bytes ∷ []) l) (sym back)
          (reads_more (take i listed) (map facts_of done) bytes (facts_of c) before.each read));
      all = subst (All WasRead) (sym after)
          (All-push WasRead done c before.all (record { bytes = bytes; certificate = read; signed = signed }));
    }

pub all_read : (listed : List (List ℕ)) (i : ℕ) (read : List Certificate) → length listed ≤ i → AreRead (take i listed) read → AreRead listed read
all_read listed i read end are = subst (λ (l : List (List ℕ)). AreRead l read) (take_all i listed end) are

-- one that does not read
reads_at : (listed : List (List ℕ)) (facts : List Facts) (i : ℕ) (d : List ℕ) → i < length listed → Reads listed facts
    → (f : Facts) × CertificateOf (get_or listed i d) f
reads_at [] facts i d below each = absurd (omega arith)
reads_at (b ∷ bs) [] i d below each = absurd each
reads_at (b ∷ bs) (g ∷ gs) zero d below each = (g, each.0)
reads_at (b ∷ bs) (g ∷ gs) (suc i) d below each = reads_at bs gs i d (omega arith) each.1

pub none_reads : (listed : List (List ℕ)) (i : ℕ) (bytes : List ℕ) → i < length listed → bytes ≡ get_or listed i bytes
    → ((f : Facts) → CertificateOf bytes f → ⊥) → (facts : List Facts) → Reads listed facts → ⊥
none_reads listed i bytes below is none facts each =
    let here = reads_at listed facts i bytes below each in
    none here.0 (subst (λ (b : List ℕ). CertificateOf b here.0) (sym is) here.1)

-- bytes are certificates in at most one way
pub one_way : (listed : List (List ℕ)) (facts others : List Facts) → Reads listed facts → Reads listed others → facts ≡ others
one_way [] [] [] one two = refl
one_way [] [] (o ∷ os) one two = absurd two
one_way [] (f ∷ fs) others one two = absurd one
one_way (b ∷ bs) [] others one two = absurd one
one_way (b ∷ bs) (f ∷ fs) [] one two = absurd two
one_way (b ∷ bs) (f ∷ fs) (o ∷ os) one two =
    let head : f ≡ o = one_facts b f o one.0 two.0 in
    let rest : fs ≡ os = one_way bs fs os one.1 two.1 in
    cc
