-- Each tree in a list is smaller than the list.
use Rattle.std.specs.Prelude.{suc, ◌≤◌, List, [], ◌∷◌, map, String}
use Rattle.std.specs.declared.alloc.Global.{Global}
use Rattle.std.proofs.Common.{arith}
use denote.Param.Weighed.{most}
use Rattle.it_base.specs.Json.{json_size, items_size, fields_size}
use Rattle.it_base.specs.JsonView.{json_of, items_view, fields_view}
use Rattle.it_base.specs.declared.tree.Tree.{Tree}
use Rattle.it_base.specs.declared.tree.Tree.TheVariants.{Null, Flag, Whole, Text, Items, Members}
use Rattle.it_base.specs.declared.tree.Tree.TheVariants.{Other}
use Rattle.it_base.specs.declared.tree.Members.TheDeep.{deep-Tree}

deep-le-json_size : (t : Tree) → deep-Tree t ≤ suc (json_size (json_of t))
deep-le-json_size Null = omega arith
deep-le-json_size (Flag b) = omega arith
deep-le-json_size (Whole n) = omega arith
deep-le-json_size (Text s) = omega arith
deep-le-json_size (Items ds) = omega arith
deep-le-json_size (Members ms) = omega arith
deep-le-json_size Other = omega arith

pub most-le-items_size : (ts : List Tree) → most deep-Tree ts ≤ items_size (items_view ts)
most-le-items_size [] = omega arith
most-le-items_size (t ∷ ts) = omega (arith, deep-le-json_size t, most-le-items_size ts)

pub most-le-fields_size : (es : List (String Global × Tree))
    → most deep-Tree (map (λ e. e.1) es) ≤ fields_size (fields_view es)
most-le-fields_size [] = omega arith
most-le-fields_size (e ∷ es) = omega (arith, deep-le-json_size e.1, most-le-fields_size es)
