-- What has gone out where a command stopped (this profile's choice).
use Rattle.std.specs.Prelude.{ℕ, List, Option, take}
use Rattle.std.specs.Io.KnownBytes.{Appends}
use Rattle.it_disk.specs.Reading.{Holdings}
use Rattle.it_words.specs.declared.words.digest_words.DigestWords.{DigestWords}
use Rattle.it_file_commands.specs.Commands.{AreLinesOf, AreNamed, asked_algorithm}

-- digest: the lines of the first `count` files that the words name have gone out
pub record ListsFirst (disk : Holdings) (words : DigestWords) (old new : Option (List ℕ))
    : Type 0 where
  pub files : List (List ℕ)
  pub are_named : AreNamed disk words files
  pub count : ℕ
  pub text : List ℕ
  pub are_lines : AreLinesOf disk (asked_algorithm words) (take count files) text
  pub appends : Appends old new text
