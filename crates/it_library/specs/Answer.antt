-- What a run of the library gives, from bytes to bytes (this project's choice).
use Rattle.std.specs.Prelude.{◌≡◌, ◌≤◌, ◌⊎◌, ◌++◌, ◌∷◌, ℕ, List, [], Some, codes, drop, length}
use Rattle.std.specs.Prelude.{take}
use Rattle.it_memory.specs.Files.{in_memory}
use Rattle.it_outcome.specs.declared.outcome.Status.{Status}
use Rattle.it_outcome.specs.declared.outcome.Status.TheVariants.{Good, Refused}
use Rattle.it_program.specs.Commands.{IsOutputOf}
use Rattle.it_program.specs.Stopped.{NamesBegun}
use Rattle.it_words.specs.Words.{AreWordsOf}
use Rattle.it_words.specs.declared.words.Words.{Words}
use Rattle.it_library.specs.Handed.{AreHanded}

-- the text and the status are those of the command that the words name, over what the files that
-- were handed over hold
pub record IsAnswer (words paths sizes contents text : List ℕ) (status : Status) : Type 0 where
  pub texts : List (List ℕ)
  pub ordered : List (List ℕ × List ℕ)
  pub handed : AreHanded words paths sizes contents texts ordered
  pub command : Words
  pub names : AreWordsOf (codes "itv" ∷ texts) command
  pub is_output : IsOutputOf (in_memory ordered) command text status

-- such a text was added to what went out
abbrev pub IsOutput : (words paths sizes contents old new : List ℕ) → Status → Type 0
IsOutput words paths sizes contents old new status =
    (text : List ℕ) × IsAnswer words paths sizes contents text status × (new ≡ old ++ text)

-- this went out of the command that the words name, over what the files hold, before it stopped
pub record HasBegun (words paths sizes contents old new : List ℕ) : Type 0 where
  pub texts : List (List ℕ)
  pub ordered : List (List ℕ × List ℕ)
  pub handed : AreHanded words paths sizes contents texts ordered
  pub begun : NamesBegun (in_memory ordered) (codes "itv" ∷ texts) (Some old) (Some new)

-- with the exit status 0 the command's answer is that it holds, and with 1 that it does not; with 2
-- or 3 it stopped, and the text is empty or what went out before
pub record Gives (words paths sizes contents text : List ℕ) (exit : ℕ) : Type 0 where
  pub good : exit ≡ 0 → IsAnswer words paths sizes contents text Good
  pub refused : exit ≡ 1 → IsAnswer words paths sizes contents text Refused
  pub stopped : 2 ≤ exit → (text ≡ []) ⊎ HasBegun words paths sizes contents [] text

-- the room has the text's first bytes, as many as fit, and is otherwise as it was
abbrev pub IsShown : (text old new : List ℕ) → Type 0
IsShown text old new = new ≡ take (length old) text ++ drop (length text) old

-- such a text is shown, and its length told
abbrev pub Answers : (words paths sizes contents old new : List ℕ) → (written exit : ℕ) → Type 0
Answers words paths sizes contents old new written exit =
    (text : List ℕ) × Gives words paths sizes contents text exit × IsShown text old new
    × (written ≡ length text)
