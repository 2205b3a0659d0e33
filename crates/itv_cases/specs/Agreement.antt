-- Which cases agree (words of this project).
use Rattle.std.specs.Prelude.{◌≡◌, ◌==◌, ◌&&◌, Option, Bool}
use Rattle.std.specs.Prelude.{MatchOption, String, codes, map, nat_eq}
use Rattle.std.specs.Cmp.Lexicographic.{pointwise}
use Rattle.std.specs.declared.alloc.Global.{Global}
use Rattle.serde_json.specs.Data.{Data}
use Rattle.it_base.specs.Document.{member_at}
use Rattle.it_dsse.specs.Panel.{panel_of}
use Rattle.it_dsse.specs.Ring.{ring_check}
use Rattle.it_tables.specs.Comparison.{IsRowDifference}
use Rattle.itv_cases.specs.Answer.{IsAnswer}
use Rattle.itv_cases.specs.Cases.{CaseOf}
use Rattle.itv_cases.specs.declared.cases.answer.Answer.{Answer}
use Rattle.itv_cases.specs.declared.cases.case.Case.{Case}
use Rattle.itv_cases.specs.declared.cases.run.Run.{Run}
use Rattle.itv_cases.specs.declared.cases.wanted.Wanted.{Wanted}

-- the answer is what is wanted: the same status, and the same bytes of the report
abbrev pub Meets : Wanted → Answer → Type 0
Meets wanted answer = (answer.status ≡ wanted.status) × (answer.report ≡ wanted.report)

-- the verification gave what is wanted
abbrev pub Agrees : Run → Type 0
Agrees run = Meets run.wanted run.given

-- the verification gave what is wanted, as a truth value
abbrev pub agrees : Run → Bool
agrees run = (run.given.status == run.wanted.status)
    && pointwise nat_eq run.given.report run.wanted.report

-- the run of a case: what the case wants, and what the verification of its inputs gives, by its
-- rings
pub record IsRunOf (case : Case) (run : Run) : Type 0 where
  pub name : run.name ≡ case.name
  pub wanted : run.wanted ≡ case.wanted
  pub given : IsAnswer (panel_of (map ring_check case.rings)) case.inputs run.given

-- how a case differs: not at all where its run agrees
pub record IsCaseDifference (document : Data) (difference : Option (String Global)) : Type 0 where
  pub case : Case
  pub is_case : CaseOf document case
  pub run : Run
  pub is_run : IsRunOf case run
  pub none_where : MatchOption difference (Agrees run) (λ _. ¬ Agrees run)

-- how a document differs: a row where it has a call, and else a case
abbrev pub IsDifference : Data → Option (String Global) → Type 0
IsDifference document difference = MatchOption (member_at (codes "call") document)
    (IsCaseDifference document difference) (λ _. IsRowDifference document difference)
