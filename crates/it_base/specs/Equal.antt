-- Equality part by part; `other` equals nothing.
use Rattle.std.specs.Prelude.{Bool, true, false, ◌&&◌}
use Rattle.std.specs.Ordering.{int_eq}
use Rattle.std.specs.Str.{bytes_eq}
use Rattle.it_base.specs.Json.{Json, null, flag, whole, text, items, members, Items, no_items, item}
use Rattle.it_base.specs.Json.{Fields, no_fields, field}

abbrev pub same_flag : Bool → Bool → Bool
same_flag true b = b
same_flag false true = false
same_flag false false = true

abbrev mutual
  pub equal : Json → Json → Bool
  equal null null = true
  equal (flag a) (flag b) = same_flag a b
  equal (whole a) (whole b) = int_eq a b
  equal (text a) (text b) = bytes_eq a b
  equal (items a) (items b) = equal_items a b
  equal (members a) (members b) = equal_fields a b
  equal x y = false

  pub equal_items : Items → Items → Bool
  equal_items no_items no_items = true
  equal_items (item x xs) (item y ys) = equal x y && equal_items xs ys
  equal_items xs ys = false

  pub equal_fields : Fields → Fields → Bool
  equal_fields no_fields no_fields = true
  equal_fields (field k x xs) (field l y ys) = bytes_eq k l && (equal x y && equal_fields xs ys)
  equal_fields xs ys = false
