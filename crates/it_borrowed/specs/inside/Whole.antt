-- Numbers, as far as they are whole ones of 64 bits.
use Rattle.std.specs.Prelude.{Bool, unwrap_or}
use Rattle.fast_float.specs.Text.{Parts}
use Rattle.serde_json.specs.Data.{Num, unsigned, negative, float}
use Rattle.serde_json.specs.Read.{number_from}
use Rattle.it_borrowed.specs.Tree.{no_number}
use Rattle.it_borrowed.specs.declared.whole.Whole.{Whole}
use Rattle.it_borrowed.specs.declared.whole.Whole.TheVariants.{Unsigned, Negative, Other}

abbrev pub whole_in : Num → Whole
whole_in (unsigned n) = Unsigned n
whole_in (negative z) = Negative z
whole_in (float x) = Other

-- the number that a numeral writes, with a sign or without
abbrev pub whole_from : Bool → Parts → Whole
whole_from sign p = whole_in (unwrap_or (number_from sign p) no_number)
