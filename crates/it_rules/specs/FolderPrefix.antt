-- The prefixes of a MATCH rule (in-toto 1.0, section 4.3.3). This profile's choices: a prefix names
-- a folder, and is taken literally; an empty prefix is no prefix.
use Rattle.std.specs.Prelude.{ℕ, Bool, ◌&&◌, not, if◌then◌else◌, List, ◌++◌, codes, nat_eq}
use Rattle.std.specs.List.{ends_with}
use Rattle.std.specs.Str.{bytes_eq}

-- whether a prefix is not empty and has no slash at its end
abbrev pub lacks_slash : List ℕ → Bool
lacks_slash prefix = not (bytes_eq prefix (codes "")) && not (ends_with nat_eq prefix (codes "/"))

-- a prefix, with a slash at its end where it lacks one
abbrev pub folder_prefix : List ℕ → List ℕ
folder_prefix prefix = if lacks_slash prefix then prefix ++ codes "/" else prefix
