-- The words of the command line, in the parser's own terms (this profile's choice).
use Rattle.std.specs.Prelude.{◌≡◌, ◌≤◌, List, [], Option, MatchOption, codes}
use Rattle.clap.specs.Words.{Row, Text, fault_of, subcommand_of}
use Rattle.it_words.specs.Commands.{program}
use Rattle.it_words.specs.Values.{
  IsCheck,
  IsDigest,
  IsKey,
  IsLink,
  IsMatch,
  IsPae,
  IsPayload,
  IsSign,
  IsSigned,
  IsStatement,
  IsVerify,
}
use Rattle.it_words.specs.declared.words.Words.{Words}
use Rattle.it_words.specs.declared.words.Words.TheVariants.{
  Signed,
  Match,
  Pae,
  Sign,
  Digest,
  Link,
  Statement,
  Payload,
  Key,
  Check,
  Verify,
}

-- a command's name and its values are those of this command
abbrev pub IsCommand : Text × List Row → Words → Type 0
IsCommand named (Signed words) = (named.0 ≡ codes "signed") × IsSigned named.1 words
IsCommand named (Match words) = (named.0 ≡ codes "match") × IsMatch named.1 words
IsCommand named (Pae words) = (named.0 ≡ codes "pae") × IsPae named.1 words
IsCommand named (Sign words) = (named.0 ≡ codes "sign") × IsSign named.1 words
IsCommand named (Digest words) = (named.0 ≡ codes "digest") × IsDigest named.1 words
IsCommand named (Link words) = (named.0 ≡ codes "link") × IsLink named.1 words
IsCommand named (Statement words) = (named.0 ≡ codes "statement") × IsStatement named.1 words
IsCommand named (Payload words) = (named.0 ≡ codes "payload") × IsPayload named.1 words
IsCommand named (Key words) = (named.0 ≡ codes "key") × IsKey named.1 words
IsCommand named (Check words) = (named.0 ≡ codes "check") × IsCheck named.1 words
IsCommand named (Verify words) = (named.0 ≡ codes "verify") × IsVerify named.1 words

-- the name and the values are there, and are those of this command
abbrev pub NamesCommand : Option (Text × List Row) → Words → Type 0
NamesCommand named command = MatchOption named ⊥ (λ found. IsCommand found command)

-- the words parse, and name this command with its values
pub record AreWordsOf (words : List Text) (command : Words) : Type 0 where
  pub parse : fault_of program words ≡ []
  pub named : NamesCommand (subcommand_of program words) command

-- the command looks no deeper than 8, where it looks at sublayouts
abbrev pub GoesNoDeeper : Words → Type 0
GoesNoDeeper (Signed words) = Unit {0}
GoesNoDeeper (Match words) = Unit {0}
GoesNoDeeper (Pae words) = Unit {0}
GoesNoDeeper (Sign words) = Unit {0}
GoesNoDeeper (Digest words) = Unit {0}
GoesNoDeeper (Link words) = Unit {0}
GoesNoDeeper (Statement words) = Unit {0}
GoesNoDeeper (Payload words) = Unit {0}
GoesNoDeeper (Key words) = Unit {0}
GoesNoDeeper (Check words) = Unit {0}
GoesNoDeeper (Verify words) = words.depth ≤ 8
