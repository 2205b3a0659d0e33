-- What is read of a certificate's extensions.
use Rattle.std.specs.Prelude.{List}
use Rattle.it_certificate.specs.Constraints.{IsConstraints}
use Rattle.it_certificate.specs.Extension.{Stated}
use Rattle.it_certificate.specs.Identifiers.{key_usage, basic_constraints, extended_key_usage}
use Rattle.it_certificate.specs.Purposes.{IsPurposes}
use Rattle.it_certificate.specs.Usage.{IsUsage}
use Rattle.it_certificate.specs.Values.{value_of}
use Rattle.it_certificate.specs.Within.{IfThere}
use Rattle.it_certificate.specs.declared.known.Known.{Known}

-- the values of three extensions, of those that are there
pub record AreKnown (extensions : List Stated) (k : Known) : Type 0 where
  pub usage : IfThere IsUsage (value_of key_usage extensions) k.usage
  pub constraints : IfThere IsConstraints (value_of basic_constraints extensions) k.constraints
  pub purposes : IfThere IsPurposes (value_of extended_key_usage extensions) k.purposes
