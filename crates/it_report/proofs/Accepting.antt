-- What the lines of an accepting report tell.
use Rattle.std.proofs.Common.{◌≡◌, ℕ, List, [], ◌∷◌, ◌++◌, All, codes, get_or, refl, sym, ap, ◌∙◌}
use Rattle.std.proofs.Common.{append_assoc, arith, lit<, lit≤}
use Rattle.std.specs.Prelude.{decimal}
use Rattle.std.specs.List.{flat_map}
use Rattle.std.proofs.lemmas.Fmt.{decimal_injective}
use Rattle.std.proofs.lemmas.List.Elements.{All-head, All-tail}
use Rattle.it_report.specs.Name.{name_form}
use Rattle.it_report.specs.Report.{file_line, step_line}
use Rattle.it_report.specs.ReportLaws.{StepFits}
use Rattle.it_report.proofs.Cut.{Lacks, Lacks-append, Lacks-decimal, Lacks-test, cut}
use Rattle.it_report.proofs.Forms.{forms_tell, name_form-lacks}
use Rattle.it_report.proofs.LineForms.{line_tells, name_then}

files_tell : (files others : List (List ℕ)) → flat_map file_line files ≡ flat_map file_line others
    → files ≡ others
files_tell [] [] same = refl
files_tell [] (g ∷ gs) same = cc
files_tell (f ∷ fs) [] same = cc
files_tell (f ∷ fs) (g ∷ gs) same =
    let parts = name_then (codes "file") f g (flat_map file_line fs) (flat_map file_line gs) same in
    let rest = files_tell fs gs parts.1 in
    λ i. parts.0 i ∷ rest i

-- what stands in the line of a step
abbrev step_value : List ℕ × ℕ → List ℕ
step_value step = name_form step.0 ++ codes " " ++ decimal step.1

step_value-lacks : (step : List ℕ × ℕ) → StepFits step → Lacks 10 (step_value step)
step_value-lacks step small =
    Lacks-append 10 (name_form step.0 ++ codes " ") (decimal step.1)
    (Lacks-append 10 (name_form step.0) (codes " ") (name_form-lacks 10 step.0 (lit≤ tt))
    (Lacks-test 10 (codes " ") refl)) (Lacks-decimal 10 step.1 (lit< tt) small)

step_tells : (step other : List ℕ × ℕ) → StepFits step → StepFits other
    → step_value step ≡ step_value other → step ≡ other
step_tells step other small also_small same =
    let parts = cut 32 (name_form step.0) (name_form other.0) (decimal step.1) (decimal other.1)
    (name_form-lacks 32 step.0 (lit≤ tt)) (name_form-lacks 32 other.0 (lit≤ tt))
    (sym (append_assoc (name_form step.0) (codes " ") (decimal step.1)) ∙ same
    ∙ append_assoc (name_form other.0) (codes " ") (decimal other.1)) in
    let name = forms_tell step.0 other.0 parts.0 in
    let keys = decimal_injective step.1 other.1 small also_small parts.1 in
    λ i. (name i, keys i)

-- the first byte of a text
abbrev first_of : List ℕ → ℕ
first_of text = get_or text 0 0

-- the lines of files do not begin with that of a step
no_step : (files : List (List ℕ)) (step : List ℕ × ℕ) (rest others : List ℕ)
    → ¬ (flat_map file_line files ≡ step_line step ++ rest ++ others)
no_step [] step rest others same = absurd (omega (arith, ap first_of same))
no_step (f ∷ fs) step rest others same = absurd (omega (arith, ap first_of same))

pub accepting_tells : (steps other_steps : List (List ℕ × ℕ)) (files other_files : List (List ℕ))
    → All StepFits steps → All StepFits other_steps
    → flat_map step_line steps ++ flat_map file_line files ≡ flat_map step_line other_steps
    ++ flat_map file_line other_files → (steps ≡ other_steps) × (files ≡ other_files)
accepting_tells [] [] files other_files h k same = (refl, files_tell files other_files same)
accepting_tells [] (t ∷ ts) files other_files h k same =
    absurd (no_step files t (flat_map step_line ts) (flat_map file_line other_files) same)
accepting_tells (s ∷ ss) [] files other_files h k same =
    absurd (no_step other_files s (flat_map step_line ss) (flat_map file_line files) (sym same))
accepting_tells (s ∷ ss) (t ∷ ts) files other_files h k same =
    let here = All-head StepFits s ss h in
    let there = All-head StepFits t ts k in
    let parts = line_tells (codes "step") (step_value s) (step_value t) (flat_map step_line ss
    ++ flat_map file_line files) (flat_map step_line ts ++ flat_map file_line other_files)
    (step_value-lacks s here) (step_value-lacks t there)
    (sym (append_assoc (step_line s) (flat_map step_line ss) (flat_map file_line files)) ∙ same
    ∙ append_assoc (step_line t) (flat_map step_line ts) (flat_map file_line other_files)) in
    let step = step_tells s t here there parts.0 in
    let rest = accepting_tells ss ts files other_files (All-tail StepFits s ss h)
    (All-tail StepFits t ts k) parts.1 in
    (λ i. step i ∷ rest.0 i, rest.1)
