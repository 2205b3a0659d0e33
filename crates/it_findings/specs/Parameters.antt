-- Parameters of in-toto in texts: names in braces, for which in-toto's tools put values that they
-- are given, and which stand for themselves here (a word of this project).
use Rattle.std.specs.Prelude.{◌≡◌, ◌⊎◌, ℕ, ◌≤◌, List, [], ◌∷◌}
use Rattle.std.specs.Str.{byte}
use Rattle.it_docs.specs.declared.rule.Rule.{Rule}
use Rattle.it_docs.specs.declared.rule.Rule.TheVariants.{Match, Create, Delete, Modify, Allow}
use Rattle.it_docs.specs.declared.rule.Rule.TheVariants.{Disallow, Require}
use Rattle.it_findings.specs.Reaching.{Reaches}

-- a byte of the name of a parameter: a letter, a digit, _ or -
abbrev pub IsNameByte : ℕ → Type 0
IsNameByte c =
    ((byte "a" ≤ c) × (c ≤ byte "z")) ⊎ ((byte "A" ≤ c) × (c ≤ byte "Z"))
    ⊎ ((byte "0" ≤ c) × (c ≤ byte "9")) ⊎ (c ≡ byte "_") ⊎ (c ≡ byte "-")

-- the text goes on with the name of a parameter, which may have ended, and the brace behind it
abbrev pub EndsName : List ℕ → Type 0
EndsName text = Reaches IsNameByte (λ c after. c ≡ byte "}") text

-- the text begins with a name of at least one byte, and the brace behind it
abbrev pub BeginsName : List ℕ → Type 0
BeginsName [] = ⊥
BeginsName (c ∷ text) = IsNameByte c × EndsName text

-- the text has a parameter
abbrev pub HasParameter : List ℕ → Type 0
HasParameter text = Reaches (λ c. Unit {0}) (λ c after. (c ≡ byte "{") × BeginsName after) text

-- a text of the rule that names paths has a parameter: its pattern or path, or a prefix of MATCH
abbrev pub NamesParameter : Rule → Type 0
NamesParameter (Match pattern source side target from) =
    HasParameter pattern ⊎ HasParameter source ⊎ HasParameter target
NamesParameter (Create pattern) = HasParameter pattern
NamesParameter (Delete pattern) = HasParameter pattern
NamesParameter (Modify pattern) = HasParameter pattern
NamesParameter (Allow pattern) = HasParameter pattern
NamesParameter (Disallow pattern) = HasParameter pattern
NamesParameter (Require path) = HasParameter path
