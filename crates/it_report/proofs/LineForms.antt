-- What lines that stand one after another tell.
use Rattle.std.proofs.Common.{◌≡◌, ◌<◌, ◌^◌, ℕ, List, ◌∷◌, ◌++◌, codes, sym, ◌∙◌, append_assoc}
use Rattle.std.proofs.Common.{lit<, lit≤}
use Rattle.std.specs.Prelude.{decimal}
use Rattle.std.proofs.lemmas.Fmt.{decimal_injective}
use Rattle.std.proofs.lemmas.List.{append_cancel_left, append_cancel_right}
use Rattle.it_report.specs.Name.{name_form}
use Rattle.it_report.specs.Report.{line}
use Rattle.it_report.proofs.Cut.{Lacks, Lacks-decimal, cut}
use Rattle.it_report.proofs.Forms.{forms_tell, name_form-lacks}

line-is : (word value rest : List ℕ) → line word value ++ rest ≡ (word ++ codes " ")
    ++ (value ++ 10 ∷ rest)
line-is word value rest = append_assoc (word ++ codes " " ++ value) (codes "\n") rest
    ∙ append_assoc (word ++ codes " ") value (10 ∷ rest)

-- ---- a line with others behind it
pub line_tells : (word value other rest others : List ℕ) → Lacks 10 value → Lacks 10 other
    → line word value ++ rest ≡ line word other ++ others → (value ≡ other) × (rest ≡ others)
line_tells word value other rest others lacks also_lacks same =
    cut 10 value other rest others lacks also_lacks
    (append_cancel_left (word ++ codes " ") (value ++ 10 ∷ rest) (other ++ 10 ∷ others)
    (sym (line-is word value rest) ∙ same ∙ line-is word other others))

pub name_then : (word name other rest others : List ℕ) → line word (name_form name)
    ++ rest ≡ line word (name_form other) ++ others → (name ≡ other) × (rest ≡ others)
name_then word name other rest others same =
    let parts = line_tells word (name_form name) (name_form other) rest others
    (name_form-lacks 10 name (lit≤ tt)) (name_form-lacks 10 other (lit≤ tt)) same in
    (forms_tell name other parts.0, parts.1)

pub number_then : (word : List ℕ) (m n : ℕ) (rest others : List ℕ) → m < 2 ^ 64 → n < 2 ^ 64
    → line word (decimal m) ++ rest ≡ line word (decimal n) ++ others → (m ≡ n) × (rest ≡ others)
number_then word m n rest others small also_small same =
    let parts = line_tells word (decimal m) (decimal n) rest others
    (Lacks-decimal 10 m (lit< tt) small) (Lacks-decimal 10 n (lit< tt) also_small) same in
    (decimal_injective m n small also_small parts.0, parts.1)

-- ---- the last line
pub last_tells : (word value other : List ℕ) → line word value ≡ line word other → value ≡ other
last_tells word value other same =
    append_cancel_left (word ++ codes " ") value other
    (append_cancel_right (word ++ codes " " ++ value) (word ++ codes " " ++ other)
    (codes "\n") same)

pub last_name : (word name other : List ℕ) → line word (name_form name) ≡ line word
    (name_form other) → name ≡ other
last_name word name other same =
    forms_tell name other (last_tells word (name_form name) (name_form other) same)

pub last_number : (word : List ℕ) (m n : ℕ) → m < 2 ^ 64 → n < 2 ^ 64
    → line word (decimal m) ≡ line word (decimal n) → m ≡ n
last_number word m n small also_small same = decimal_injective m n small also_small
    (last_tells word (decimal m) (decimal n) same)
