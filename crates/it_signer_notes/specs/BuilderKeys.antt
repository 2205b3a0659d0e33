-- The keys of the builders of a policy.
use Rattle.std.specs.Prelude.{List}
use Rattle.std.specs.FinMap.{values}
use Rattle.std.specs.List.{flat_map}
use Rattle.it_docs.specs.declared.policy.Builder.{Builder}
use Rattle.it_docs.specs.declared.policy.Expectation.{Expectation}
use Rattle.it_docs.specs.declared.policy.Policy.{Policy}
use Rattle.it_dsse.specs.declared.key_object.KeyObject.{KeyObject}

-- the keys of a builder, in the order of the bytes of their ids
abbrev pub keys_of_builder : Builder → List KeyObject
keys_of_builder builder = values builder.keys

-- the keys of the builders that an expectation names, in their order
abbrev pub keys_of_expectation : Expectation → List KeyObject
keys_of_expectation expectation = flat_map keys_of_builder expectation.builders

-- the keys of the builders of all expectations of a policy, in their order
abbrev pub keys_of_builders : Policy → List KeyObject
keys_of_builders policy = flat_map keys_of_expectation policy.expectations
