-- What is said of lines that vouch for nobody (this project's words).
use Rattle.std.specs.Prelude.{ℕ, ◌-◌, List, ◌++◌, codes, decimal, if◌then◌else◌}
use Rattle.std.specs.Prelude.{length, nat_le, take}
use Rattle.std.specs.List.{flat_map}
use Rattle.it_vouches.specs.Phrases.{phrase_of}
use Rattle.it_vouched.specs.declared.silent_line.SilentLine.{SilentLine}

-- the line of a note
unfoldable pub silent_text : SilentLine → List ℕ
silent_text silent =
    codes "provenance line " ++ decimal silent.line
    ++ codes ": a bundle that vouches for nobody: " ++ phrase_of silent.shortfall ++ codes "\n"

-- how many there are of which no line is written
abbrev pub further_text : ℕ → List ℕ
further_text count = decimal count ++ codes " further bundles vouch for nobody\n"

-- the notes: a line on each; where there are more than 40, a line on each of the first 39, and how
-- many further ones there are
abbrev pub silent_notes : List SilentLine → List ℕ
silent_notes silent =
    if nat_le (length silent) 40 then flat_map silent_text silent
    else flat_map silent_text (take 39 silent) ++ further_text (length silent - 39)
