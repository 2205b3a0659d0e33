-- What a contract sees of a tree.
use Rattle.std.specs.Prelude.{List, [], ◌∷◌, String, string_bytes}
use Rattle.std.specs.declared.alloc.Global.{Global}
use Rattle.it_base.specs.Json as j
use Rattle.it_base.specs.declared.tree.Tree.{Tree}
use Rattle.it_base.specs.declared.tree.Tree.TheVariants.{Null, Flag, Whole, Text, Items, Members}
use Rattle.it_base.specs.declared.tree.Tree.TheVariants.{Other}

abbrev pub json_of : Tree → j.Json
json_of Null = j.null
json_of (Flag b) = j.flag b
json_of (Whole n) = j.whole n
json_of (Text s) = j.text s
json_of (Items ds) = j.items ds
json_of (Members ms) = j.members ms
json_of Other = j.other

abbrev pub items_view : List Tree → j.Items
items_view [] = j.no_items
items_view (t ∷ ts) = j.item (json_of t) (items_view ts)

abbrev pub fields_view : List (String Global × Tree) → j.Fields
fields_view [] = j.no_fields
fields_view (m ∷ ms) = j.field (string_bytes m.0) (json_of m.1) (fields_view ms)
