-- What was answered for sublayouts, folder by folder, and that it is right.
use Rattle.std.specs.Prelude.{◌≡◌, ℕ, zero, suc, List, [], Option, None, Some, if◌then◌else◌}
use Rattle.std.specs.Prelude.{unwrap_or}
use Rattle.std.specs.BTreeMap.{get_by, get_by_text}
use Rattle.std.specs.Cmp.Lexicographic.{slice_cmp}
use Rattle.std.specs.Ordering.{nat_cmp}
use Rattle.std.specs.Str.{bytes_eq}
use Rattle.it_dsse.specs.declared.meter.Meter.{Meter}
use Rattle.it_docs.specs.Layout.{LayoutOf}
use Rattle.it_docs.specs.declared.layout.Layout.{Layout}
use Rattle.it_chain.specs.Chain.{holds_below}
use Rattle.it_chain.specs.Contents.{Contents, empty, folder_at}
use Rattle.it_chain.specs.Cost.{cost_below}
use Rattle.it_chain.specs.CountedBodies.{Setting}
use Rattle.it_chain.specs.Fewest.{fewest_below}
use Rattle.it_chain.specs.Raised.{RaisedAtLeast, RaisedWithin}
use Rattle.it_chain.specs.Summary.{summary}
use Rattle.it_chain.specs.declared.answered.Answer.{Answer}
use Rattle.it_chain.specs.declared.answered.AnsweredSublayouts.{AnsweredSublayouts}
use Rattle.it_chain.specs.declared.answered.AnsweredSublayouts.{out-AnsweredSublayouts}
use Rattle.it_chain.specs.declared.chain.StepResult.{StepResult}

-- what was answered for the sublayout in a payload over the folder
abbrev pub answer_at : AnsweredSublayouts → List ℕ → Option Answer
answer_at answered payload =
    get_by (λ key. slice_cmp nat_cmp payload key.items)
    (out-AnsweredSublayouts answered).by_payload

-- what was answered over a folder in it
abbrev pub within_at : AnsweredSublayouts → List ℕ → Option AnsweredSublayouts
within_at answered folder = get_by_text (out-AnsweredSublayouts answered).folders folder

-- nothing was answered
abbrev pub IsFresh : AnsweredSublayouts → Type 0
IsFresh answered =
    ((payload : List ℕ) → answer_at answered payload ≡ None)
    × ((folder : List ℕ) → within_at answered folder ≡ None)

-- the answers over one folder in it are no more there
abbrev pub IsTaken : AnsweredSublayouts → AnsweredSublayouts → List ℕ → Type 0
IsTaken old new folder =
    ((payload : List ℕ) → answer_at new payload ≡ answer_at old payload)
    × ((f : List ℕ) → within_at new f ≡ (if bytes_eq folder f then None else within_at old f))

-- the answers over one folder in it are these
abbrev pub IsGiven : AnsweredSublayouts → AnsweredSublayouts → List ℕ → AnsweredSublayouts → Type 0
IsGiven old new folder within =
    ((payload : List ℕ) → answer_at new payload ≡ answer_at old payload)
    × ((f : List ℕ) → within_at new f ≡ (if bytes_eq folder f then Some within
    else within_at old f))

-- a meter that was not raised yet
abbrev pub unraised : Meter
unraised = record { asked = 0 }

-- the folder of a name; a missing one is empty
abbrev pub named_folder : Contents → List ℕ → Contents
named_folder bundle name = unwrap_or (folder_at name bundle) empty

-- the sublayout in a payload of a level, below which sublayouts may be nested this deep, comes to
-- an answer over a folder
pub record IsAnswer (setting : Setting) (depth : ℕ) (bundle : Contents) (payload : List ℕ)
    (answer : Answer) : Type 0 where
  pub sublayout : Layout
  pub reads : LayoutOf payload sublayout
  pub records : (results : List StepResult) × (sublayout.inspections ≡ [])
      × holds_below setting depth sublayout bundle results × (answer.recorded ≡ summary results)
  pub asked : RaisedWithin 0 (cost_below setting depth sublayout bundle) unraised answer.asked
  pub fewest : RaisedAtLeast (fewest_below setting depth sublayout bundle) unraised answer.asked

-- all answers over a folder are right, where they are of the sublayouts of a level
abbrev pub AreRight : Setting → ℕ → Contents → AnsweredSublayouts → Type 0
AreRight setting depth bundle answered =
    (payload : List ℕ) (answer : Answer) → answer_at answered payload ≡ Some answer
    → IsAnswer setting depth bundle payload answer

-- and so are those over the folders in it, which are of the sublayouts of the level below
abbrev pub AreWithin : Setting → ℕ → Contents → AnsweredSublayouts → Type 0
AreWithin setting zero bundle answered = AreRight setting zero bundle answered
AreWithin setting (suc depth) bundle answered =
    AreRight setting (suc depth) bundle answered
    × ((folder : List ℕ) (within : AnsweredSublayouts) → within_at answered folder ≡ Some within
    → AreWithin setting depth (named_folder bundle folder) within)
