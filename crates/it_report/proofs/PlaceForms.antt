-- What the form of a place tells.
use Rattle.std.proofs.Common.{◌≡◌, ℕ, List, [], ◌∷◌, ◌++◌, codes, refl, sym, subst, ◌∙◌}
use Rattle.std.proofs.Common.{append_assoc, append-nil}
use Rattle.std.specs.List.{flat_map}
use Rattle.it_report.specs.Name.{inner_form}
use Rattle.it_report.specs.Report.{pair_form, place_form}
use Rattle.it_report.proofs.Cut.{Lacks, Lacks-append, Lacks-test, cut}
use Rattle.it_report.proofs.Forms.{flat_map-lacks, inner_form-lacks-line, inner_form-lacks-slash}
use Rattle.it_report.proofs.Forms.{inner_forms_tell}

-- the form of a pair behind others, and of several
abbrev further_form : List ℕ × List ℕ → List ℕ
further_form pair = codes "/" ++ pair_form pair

abbrev behind : List (List ℕ × List ℕ) → List ℕ
behind pairs = flat_map further_form pairs

has_it : (c : ℕ) (xs ps : List ℕ) → ¬ Lacks c (xs ++ c ∷ ps)
has_it c [] ps lacks = lacks.0 refl
has_it c (x ∷ xs) ps lacks = has_it c xs ps lacks.1

-- what stands before the pairs that follow
cut_behind : (a b : List ℕ) (ps qs : List (List ℕ × List ℕ)) → Lacks 47 a → Lacks 47 b → a
    ++ behind ps ≡ b ++ behind qs → (a ≡ b) × (behind ps ≡ behind qs)
cut_behind a b [] [] lacks also_lacks same = (sym (append-nil a) ∙ same ∙ append-nil b, refl)
cut_behind a b [] (q ∷ qs) lacks also_lacks same =
    absurd (has_it 47 b (pair_form q ++ behind qs)
    (subst (Lacks 47) (sym (append-nil a) ∙ same) lacks))
cut_behind a b (p ∷ ps) [] lacks also_lacks same =
    absurd (has_it 47 a (pair_form p ++ behind ps)
    (subst (Lacks 47) (sym (append-nil b) ∙ sym same) also_lacks))
cut_behind a b (p ∷ ps) (q ∷ qs) lacks also_lacks same =
    let parts = cut 47 a b (pair_form p ++ behind ps) (pair_form q ++ behind qs) lacks also_lacks
    same in
    let rest = parts.1 in
    (parts.0, cc)

pair-is : (p : List ℕ × List ℕ) (rest : List ℕ) → pair_form p ++ rest ≡ inner_form p.0
    ++ 47 ∷ (inner_form p.1 ++ rest)
pair-is p rest = append_assoc (inner_form p.0 ++ codes "/") (inner_form p.1) rest
    ∙ append_assoc (inner_form p.0) (codes "/") (inner_form p.1 ++ rest)

one_pair : (p q : List ℕ × List ℕ) (ps qs : List (List ℕ × List ℕ)) → pair_form p
    ++ behind ps ≡ pair_form q ++ behind qs → (p ≡ q) × (behind ps ≡ behind qs)
one_pair p q ps qs same =
    let parts = cut 47 (inner_form p.0) (inner_form q.0) (inner_form p.1 ++ behind ps)
    (inner_form q.1 ++ behind qs) (inner_form-lacks-slash p.0) (inner_form-lacks-slash q.0)
    (sym (pair-is p (behind ps)) ∙ same ∙ pair-is q (behind qs)) in
    let rest = cut_behind (inner_form p.1) (inner_form q.1) ps qs (inner_form-lacks-slash p.1)
    (inner_form-lacks-slash q.1) parts.1 in
    let step = inner_forms_tell p.0 q.0 parts.0 in
    let id = inner_forms_tell p.1 q.1 rest.0 in
    (λ i. (step i, id i), rest.1)

pairs_tell : (ps qs : List (List ℕ × List ℕ)) → behind ps ≡ behind qs → ps ≡ qs
pairs_tell [] [] same = refl
pairs_tell [] (q ∷ qs) same = cc
pairs_tell (p ∷ ps) [] same = cc
pairs_tell (p ∷ ps) (q ∷ qs) same =
    let inside : pair_form p ++ behind ps ≡ pair_form q ++ behind qs = cc in
    let parts = one_pair p q ps qs inside in
    let rest = pairs_tell ps qs parts.1 in
    λ i. parts.0 i ∷ rest i

-- no pair is written as -
no_dash : (p : List ℕ × List ℕ) (ps : List (List ℕ × List ℕ)) → ¬ (codes "-" ≡ place_form (p ∷ ps))
no_dash p ps same = has_it 47 (inner_form p.0) (inner_form p.1 ++ behind ps)
    (subst (Lacks 47) (same ∙ pair-is p (behind ps)) (Lacks-test 47 (codes "-") refl))

pub places_tell : (ps qs : List (List ℕ × List ℕ)) → place_form ps ≡ place_form qs → ps ≡ qs
places_tell [] [] same = refl
places_tell [] (q ∷ qs) same = absurd (no_dash q qs same)
places_tell (p ∷ ps) [] same = absurd (no_dash p ps (sym same))
places_tell (p ∷ ps) (q ∷ qs) same =
    let parts = one_pair p q ps qs same in
    let rest = pairs_tell ps qs parts.1 in
    λ i. parts.0 i ∷ rest i

pair_form-lacks : (p : List ℕ × List ℕ) → Lacks 10 (pair_form p)
pair_form-lacks p =
    Lacks-append 10 (inner_form p.0 ++ codes "/") (inner_form p.1)
    (Lacks-append 10 (inner_form p.0) (codes "/") (inner_form-lacks-line p.0)
    (Lacks-test 10 (codes "/") refl)) (inner_form-lacks-line p.1)

pub place_form-lacks : (ps : List (List ℕ × List ℕ)) → Lacks 10 (place_form ps)
place_form-lacks [] = Lacks-test 10 (codes "-") refl
place_form-lacks (p ∷ ps) =
    Lacks-append 10 (pair_form p) (behind ps) (pair_form-lacks p)
    (flat_map-lacks 10 further_form (λ q. Lacks-append 10 (codes "/") (pair_form q)
    (Lacks-test 10 (codes "/") refl) (pair_form-lacks q)) ps)
