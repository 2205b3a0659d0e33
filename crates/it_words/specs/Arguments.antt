-- The kinds of arguments that commands take, in the parser's own terms (this profile's choice).
use Rattle.std.specs.Prelude.{[], ◌∷◌, true, Some, codes, pos}
use Rattle.clap.specs.declared.builder.action.ArgAction.TheVariants.{Append, Count}
use Rattle.clap.specs.declared.builder.value_parser.ValueParser.TheVariants as parser
use Rattle.clap.specs.Words.{Rule, Text, new_rule}

-- a word that has to be given, in its place
abbrev pub needed_word : Text → Rule
needed_word name = record (new_rule name) { value_names = 1; required = true }

-- words of which at least one has to be given, in their place
abbrev pub needed_words : Text → Rule
needed_words name = record (needed_word name) { action = Some Append }

-- words that may be left out, in their place
abbrev pub free_words : Text → Rule
free_words name = record (new_rule name) { value_names = 1; action = Some Append }

-- an option that may be left out, with one value
abbrev pub plain_option : Text → Rule
plain_option name = record (new_rule name) { long = Some name; value_names = 1 }

-- an option that has to be given, with one value
abbrev pub needed_option : Text → Rule
needed_option name = record (plain_option name) { required = true }

-- an option that may be left out or given many times, with one value each time
abbrev pub plain_options : Text → Rule
plain_options name = record (plain_option name) { action = Some Append }

-- an option without a value, which may be left out or given many times
abbrev pub bare_option : Text → Rule
bare_option name = record (new_rule name) { long = Some name; action = Some Count }

-- the form of a report as JSON, which may be left out or given many times: 1 or 2, and 1 where the
-- option has no value
abbrev pub json_option : Rule
json_option = record (plain_options (codes "json")) {
  range = Some (record { start_inclusive = 0; end_inclusive = 1 });
  missing = codes "1" ∷ [];
  parser = Some (parser.Signed (pos 1) (pos 2));
}

-- how deep sublayouts may lie: from 0 to 8, and 4 where it is not said
abbrev pub depth_option : Rule
depth_option = record (plain_option (codes "depth")) {
  defaults = codes "4" ∷ [];
  parser = Some (parser.Signed (pos 0) (pos 8));
}

-- how many signatures public keys may check: 20000 where it is not said
abbrev pub most_checks_option : Rule
most_checks_option = record (plain_option (codes "most-checks")) {
  defaults = codes "20000" ∷ [];
  parser = Some (parser.Unsigned 0 18446744073709551615);
}
