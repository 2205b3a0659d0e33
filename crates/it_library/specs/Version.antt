-- The version. Made by checks/manual.py from docs/commands.json.
use Rattle.std.specs.Prelude.{ℕ, List, codes}

-- the program with its version
abbrev pub version_text : List ℕ
version_text = codes "itv 1.1.0"
