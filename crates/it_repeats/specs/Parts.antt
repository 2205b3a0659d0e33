-- What the members of objects and the items of lists are in a policy (this profile's choice) and
-- in a layout (in-toto 1.0 sections 4.2 and 4.3), as far as the members of their objects are looked
-- at.
use Rattle.std.specs.Prelude.{ℕ, List, Option, None, Some, codes, if◌then◌else◌}
use Rattle.std.specs.Option.{option_or}
use Rattle.std.specs.Str.{bytes_eq}
use Rattle.it_repeats.specs.declared.part.Part.{Part}
use Rattle.it_repeats.specs.declared.part.Part.TheVariants as parts
use Rattle.it_repeats.specs.declared.root.Root.{Root}
use Rattle.it_repeats.specs.declared.root.Root.TheVariants as roots

-- what the whole document is
abbrev pub root_part : Root → Part
root_part roots.Policy = parts.Policy
root_part roots.Layout = parts.Layout

-- a member of this name is that part, and one of another name is nothing
abbrev pub only : List ℕ → Part → List ℕ → Option Part
only name part given = if bytes_eq given name then Some part else None

-- what the member of a name is in an object that is such a part
abbrev pub member_part : Part → List ℕ → Option Part
member_part parts.Policy name =
    option_or (only (codes "owners") parts.Keys name)
    (only (codes "expectations") parts.Expectations name)
member_part parts.Layout name =
    option_or (only (codes "keys") parts.Keys name)
    (option_or (only (codes "steps") parts.Steps name)
    (only (codes "inspect") parts.Inspections name))
member_part parts.Keys name = Some parts.Key
member_part parts.Key name = only (codes "keyval") parts.KeyValue name
member_part parts.Expectation name =
    option_or (only (codes "builders") parts.Builders name)
    (only (codes "parameters") parts.Parameters name)
member_part parts.Builder name = only (codes "keys") parts.Keys name
member_part parts.Parameters name = Some parts.Parameters
member_part part name = None

-- what the items are in a list that is such a part
abbrev pub item_part : Part → Option Part
item_part parts.Expectations = Some parts.Expectation
item_part parts.Builders = Some parts.Builder
item_part parts.Parameters = Some parts.Parameters
item_part parts.Steps = Some parts.Step
item_part parts.Inspections = Some parts.Inspection
item_part part = None
