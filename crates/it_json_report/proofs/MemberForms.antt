-- What the members of an object in JSON tell.
use Rattle.std.proofs.Common.{◌≡◌, ◌<◌, ◌^◌, ℕ, List, [], ◌∷◌, ◌++◌, codes, sym, ◌∙◌}
use Rattle.std.proofs.Common.{append_assoc, arith}
use Rattle.std.specs.Prelude.{decimal}
use Rattle.std.proofs.lemmas.List.{append_cancel_left}
use Rattle.it_json_report.specs.Json.{further, json_object, json_text, member}
use Rattle.it_json_report.proofs.NumberForms.{Ends, number_then}
use Rattle.it_json_report.proofs.TextForms.{text_then}

-- further members, the end of the object, and what stands behind it
abbrev pub closing : List (List ℕ × List ℕ) → List ℕ → List ℕ
closing members rest = further member members ++ 125 ∷ rest

-- the name of a member, up to its value
abbrev naming : List ℕ → List ℕ
naming name = codes "\"" ++ name ++ codes "\":"

closing-ends : (members : List (List ℕ × List ℕ)) (rest : List ℕ) → Ends (closing members rest)
closing-ends [] rest = λ above. omega arith
closing-ends (m ∷ members) rest = λ above. omega arith

module _ (name value other : List ℕ) (ms ns : List (List ℕ × List ℕ)) (ps qs : List ℕ) where
  first-is : (v : List ℕ) (rest : List (List ℕ × List ℕ)) (more : List ℕ) → json_object
      ((name, v) ∷ rest) ++ more ≡ (codes "{" ++ naming name) ++ (v ++ closing rest more)
  first-is v rest more =
      append_assoc (codes "{" ++ (member (name, v) ++ further member rest)) (codes "}") more
      ∙ append_assoc (codes "{" ++ member (name, v)) (further member rest) (125 ∷ more)
      ∙ append_assoc (codes "{" ++ naming name) v (closing rest more)

  -- the first member of an object
  pub first_member : json_object ((name, value) ∷ ms) ++ ps ≡ json_object ((name, other) ∷ ns) ++ qs
      → value ++ closing ms ps ≡ other ++ closing ns qs
  first_member same = append_cancel_left (codes "{" ++ naming name) (value ++ closing ms ps)
      (other ++ closing ns qs) (sym (first-is value ms ps) ∙ same ∙ first-is other ns qs)

  next-is : (v : List ℕ) (rest : List (List ℕ × List ℕ)) (more : List ℕ) → closing
      ((name, v) ∷ rest) more ≡ (codes "," ++ naming name) ++ (v ++ closing rest more)
  next-is v rest more =
      append_assoc (codes "," ++ member (name, v)) (further member rest) (125 ∷ more)
      ∙ append_assoc (codes "," ++ naming name) v (closing rest more)

  -- a member behind others
  pub next_member : closing ((name, value) ∷ ms) ps ≡ closing ((name, other) ∷ ns) qs → value
      ++ closing ms ps ≡ other ++ closing ns qs
  next_member same = append_cancel_left (codes "," ++ naming name) (value ++ closing ms ps)
      (other ++ closing ns qs) (sym (next-is value ms ps) ∙ same ∙ next-is other ns qs)

pub text_member : (name a b : List ℕ) (ms ns : List (List ℕ × List ℕ)) (ps qs : List ℕ)
    → closing ((name, json_text a) ∷ ms) ps ≡ closing ((name, json_text b) ∷ ns) qs → (a ≡ b)
    × (closing ms ps ≡ closing ns qs)
text_member name a b ms ns ps qs same =
    text_then a b (closing ms ps) (closing ns qs) (next_member name (json_text a) (json_text b) ms
    ns ps qs same)

pub number_member : (name : List ℕ) (m n : ℕ) (ms ns : List (List ℕ × List ℕ)) (ps qs : List ℕ)
    → m < 2 ^ 64 → n < 2 ^ 64 → closing ((name, decimal m) ∷ ms) ps ≡ closing
    ((name, decimal n) ∷ ns) qs → (m ≡ n) × (closing ms ps ≡ closing ns qs)
number_member name m n ms ns ps qs small also_small same =
    number_then m n (closing ms ps) (closing ns qs) small also_small (closing-ends ms ps)
    (closing-ends ns qs) (next_member name (decimal m) (decimal n) ms ns ps qs same)
