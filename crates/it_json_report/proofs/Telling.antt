-- What a report as JSON tells: the whole verdict.
use Rattle.std.proofs.Common.{◌≡◌, ◌≢◌, ℕ, List, [], ◌∷◌, ◌++◌, All, codes}
use Rattle.std.proofs.Common.{sym, ap, arith}
use Rattle.std.specs.Prelude.{decimal}
use Rattle.it_report.specs.Fault.{name_of, number_of}
use Rattle.it_report.specs.ReportLaws.{FaultFits, StepFits}
use Rattle.it_report.specs.declared.refusal.Refusal.{Refusal}
use Rattle.it_report.specs.declared.verdict.Verdict.TheVariants.{Accepted, Refused}
use Rattle.it_json_report.specs.Json.{json_list, json_object, json_text}
use Rattle.it_json_report.specs.JsonLaws.{JsonTells}
use Rattle.it_json_report.specs.JsonReport.{fault_members, json_of, step_object, sublayout_object}
use Rattle.it_json_report.proofs.FaultMembers.{members_tell}
use Rattle.it_json_report.proofs.ListForms.{list_then}
use Rattle.it_json_report.proofs.MemberForms.{closing, first_member, next_member}
use Rattle.it_json_report.proofs.MemberForms.{number_member, text_member}
use Rattle.it_json_report.proofs.NumberForms.{number_is_small}
use Rattle.it_json_report.proofs.TextForms.{first, text_then}

-- ---- items of lists
abbrev Always : {X : Type 0} → X → Type 0
Always x = Unit {0}

always : {X : Type 0} (xs : List X) → All (Always {X = X}) xs
always xs k d below = tt

no_end_text : (text : List ℕ) (ps qs : List ℕ) → codes "]" ++ ps ≢ json_text text ++ qs
no_end_text text ps qs same = absurd (omega (arith, ap first same))

file_then : (x y ps qs : List ℕ) → Unit {0} → Unit {0} → json_text x ++ ps ≡ json_text y ++ qs
    → (x ≡ y) × (ps ≡ qs)
file_then x y ps qs h k same = text_then x y ps qs same

no_end_step : (step : List ℕ × ℕ) (ps qs : List ℕ) → codes "]" ++ ps ≢ step_object step ++ qs
no_end_step step ps qs same = absurd (omega (arith, ap first same))

abbrev keys : List ℕ × ℕ → List (List ℕ × List ℕ)
keys step = (codes "keys", decimal step.1) ∷ []

step_then : (x y : List ℕ × ℕ) (ps qs : List ℕ) → StepFits x → StepFits y → step_object x ++ ps
    ≡ step_object y ++ qs → (x ≡ y) × (ps ≡ qs)
step_then x y ps qs h k same =
    let names = text_then x.0 y.0 (closing (keys x) ps) (closing (keys y) qs)
    (first_member (codes "name") (json_text x.0) (json_text y.0) (keys x) (keys y) ps qs same) in
    let counts = number_member (codes "keys") x.1 y.1 [] [] ps qs h k names.1 in
    let rest : 125 ∷ ps ≡ 125 ∷ qs = counts.1 in
    (λ i. (names.0 i, counts.0 i), cc)

no_end_sublayout : (pair : List ℕ × List ℕ) (ps qs : List ℕ) → codes "]" ++ ps
    ≢ sublayout_object pair ++ qs
no_end_sublayout pair ps qs same = absurd (omega (arith, ap first same))

abbrev key : List ℕ × List ℕ → List (List ℕ × List ℕ)
key pair = (codes "key", json_text pair.1) ∷ []

sublayout_then : (x y : List ℕ × List ℕ) (ps qs : List ℕ) → Unit {0} → Unit {0}
    → sublayout_object x ++ ps ≡ sublayout_object y ++ qs → (x ≡ y) × (ps ≡ qs)
sublayout_then x y ps qs h k same =
    let steps = text_then x.0 y.0 (closing (key x) ps) (closing (key y) qs)
    (first_member (codes "step") (json_text x.0) (json_text y.0) (key x) (key y) ps qs same) in
    let ids = text_member (codes "key") x.1 y.1 [] [] ps qs steps.1 in
    let rest : 125 ∷ ps ≡ 125 ∷ qs = ids.1 in
    (λ i. (steps.0 i, ids.0 i), cc)

-- ---- verdicts
-- the members of an accepting verdict behind the first
abbrev files_member : List (List ℕ) → List (List ℕ × List ℕ)
files_member files = (codes "files", json_list json_text files) ∷ []

abbrev accepting : List (List ℕ × ℕ) → List (List ℕ) → List (List ℕ × List ℕ)
accepting steps files = (codes "steps", json_list step_object steps) ∷ files_member files

-- the members of a refusal behind the first, and further ones
abbrev place_members : Refusal → List (List ℕ × List ℕ)
place_members refusal =
    (codes "at", json_list sublayout_object refusal.at) ∷ fault_members refusal.fault

abbrev name_members : Refusal → List (List ℕ × List ℕ)
name_members refusal = (codes "name", json_text (name_of refusal.fault)) ∷ place_members refusal

abbrev refusing : Refusal → List (List ℕ × List ℕ)
refusing refusal = (codes "number", decimal (number_of refusal.fault)) ∷ name_members refusal

-- two objects whose first members are a word
words_tell : (a b : List ℕ) (ms ns : List (List ℕ × List ℕ)) → json_object
    ((codes "verdict", json_text a) ∷ ms) ++ codes "\n" ≡ json_object
    ((codes "verdict", json_text b) ∷ ns) ++ codes "\n" → (a ≡ b)
    × (closing ms (codes "\n") ≡ closing ns (codes "\n"))
words_tell a b ms ns same =
    text_then a b (closing ms (codes "\n")) (closing ns (codes "\n"))
    (first_member (codes "verdict") (json_text a) (json_text b) ms ns (codes "\n") (codes "\n")
    same)

accepting_tells : (steps other_steps : List (List ℕ × ℕ)) (files other_files : List (List ℕ))
    → All StepFits steps → All StepFits other_steps → closing (accepting steps files) (codes "\n")
    ≡ closing (accepting other_steps other_files) (codes "\n") → (steps ≡ other_steps)
    × (files ≡ other_files)
accepting_tells steps other_steps files other_files h k same =
    let end = codes "\n" in
    let ms = files_member files in
    let ns = files_member other_files in
    let step = list_then step_object StepFits no_end_step step_then steps other_steps
    (closing ms end) (closing ns end) h k (next_member (codes "steps")
    (json_list step_object steps) (json_list step_object other_steps) ms ns end end same) in
    let file = list_then json_text Always no_end_text file_then files other_files
    (closing [] end) (closing [] end) (always files) (always other_files)
    (next_member (codes "files") (json_list json_text files) (json_list json_text other_files) []
    [] end end step.1) in
    (step.0, file.0)

refusing_tells : (a b : Refusal) → FaultFits a.fault → FaultFits b.fault
    → closing (refusing a) (codes "\n") ≡ closing (refusing b) (codes "\n") → a ≡ b
refusing_tells a b h k same =
    let end = codes "\n" in
    let numbers = number_member (codes "number") (number_of a.fault) (number_of b.fault)
    (name_members a) (name_members b) end end (number_is_small a.fault) (number_is_small b.fault)
    same in
    let names = text_member (codes "name") (name_of a.fault) (name_of b.fault) (place_members a)
    (place_members b) end end numbers.1 in
    let places = list_then sublayout_object Always no_end_sublayout sublayout_then a.at b.at
    (closing (fault_members a.fault) end) (closing (fault_members b.fault) end) (always a.at)
    (always b.at) (next_member (codes "at") (json_list sublayout_object a.at)
    (json_list sublayout_object b.at) (fault_members a.fault) (fault_members b.fault) end end
    names.1) in
    let fault = members_tell end end a.fault b.fault h k numbers.0 places.1 in
    λ i. record { at = places.0 i; fault = fault i }

accepts_or_refuses : (steps : List (List ℕ × ℕ)) (files : List (List ℕ)) (refusal : Refusal)
    → ¬ (json_of (Accepted steps files) ≡ json_of (Refused refusal))
accepts_or_refuses steps files refusal same =
    let words = words_tell (codes "accepted") (codes "refused") (accepting steps files)
    (refusing refusal) same in
    absurd (omega (arith, ap first words.0))

pub json_tells : JsonTells
json_tells (Accepted steps files) (Accepted other_steps other_files) h k same =
    let words = words_tell (codes "accepted") (codes "accepted") (accepting steps files)
    (accepting other_steps other_files) same in
    let parts = accepting_tells steps other_steps files other_files h k words.1 in
    λ i. Accepted (parts.0 i) (parts.1 i)
json_tells (Accepted steps files) (Refused refusal) h k same =
    absurd (accepts_or_refuses steps files refusal same)
json_tells (Refused refusal) (Accepted steps files) h k same =
    absurd (accepts_or_refuses steps files refusal (sym same))
json_tells (Refused a) (Refused b) h k same =
    let words = words_tell (codes "refused") (codes "refused") (refusing a) (refusing b) same in
    let refusals = refusing_tells a b h k words.1 in
    λ i. Refused (refusals i)
