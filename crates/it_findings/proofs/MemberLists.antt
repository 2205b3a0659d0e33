-- Members of objects, one at a time, and names in tables.
use Rattle.std.proofs.Common.{◌≡◌, ◌∙◌, ◌↔◌, ℕ, zero, suc, List, [], ◌∷◌, ◌++◌, map}
use Rattle.std.proofs.Common.{Any, Bor, Contains, refl, sym, ap, subst, arith}
use Rattle.serde_json.specs.Data.{Data}
use Rattle.it_borrowed.specs.Tree.{as_data}
use Rattle.it_findings.specs.Joined.{JoinedEach}
use Rattle.it_findings.specs.Members.{entries_in}
use Rattle.it_borrowed.specs.NamedMembers.{NamedMember, members_in}
use Rattle.it_findings.proofs.Joining.{joined_push}

-- a member with its name
abbrev pub shown : NamedMember → List ℕ × Data
shown e = (e.0.now, as_data e.1.now)

entries_more : (done : List NamedMember) (e : NamedMember) → entries_in (members_in (done ++ e ∷ []))
    ≡ entries_in (members_in done) ++ shown e ∷ []
entries_more [] e = refl
entries_more (x ∷ done) e = ap (λ es. shown x ∷ es) (entries_more done e)

-- what is said of the members so far, and then of the next one
pub joined_member : {F : Type 0} (P : List ℕ × Data → List F → Type 0) (done : List NamedMember)
    (e : NamedMember) (found here : List F) → JoinedEach P (entries_in (members_in done)) found
    → P (shown e) here
    → JoinedEach P (entries_in (members_in (done ++ e ∷ []))) (found ++ here)
joined_member P done e found here so is =
    subst (λ es. JoinedEach P es (found ++ here)) (sym (entries_more done e))
    (joined_push P (entries_in (members_in done)) (shown e) found here so is)

any_named : (names : List (Bor (List ℕ))) (name : List ℕ)
    → Contains (map (λ n. n.now) names) name → Any (λ n. n.now ≡ name) names
any_named [] name (k, below, at) = absurd (omega (arith, below))
any_named (n ∷ names) name (zero, below, at) = (zero, n, omega arith, refl, at)
any_named (n ∷ names) name (suc k, below, at) =
    let rest = any_named names name (k, omega (arith, below), at) in
    (suc rest.0, rest.1, omega (arith, rest.2), rest.3, rest.4)

named_any : (names : List (Bor (List ℕ))) (name : List ℕ) → Any (λ n. n.now ≡ name) names
    → Contains (map (λ n. n.now) names) name
named_any [] name (k, n, below, at, is) = absurd (omega (arith, below))
named_any (m ∷ names) name (zero, n, below, at, is) =
    (zero, omega arith, ap (λ (b : Bor (List ℕ)). b.now) at ∙ is)
named_any (m ∷ names) name (suc k, n, below, at, is) =
    let rest = named_any names name (k, n, omega (arith, below), at, is) in
    (suc rest.0, omega (arith, rest.1), rest.2)

-- a name stands in a table exactly if it is one of its texts
pub named : (names : List (Bor (List ℕ))) (name : List ℕ)
    → Any (λ n. n.now ≡ name) names ↔ Contains (map (λ n. n.now) names) name
named names name = (named_any names name, any_named names name)
