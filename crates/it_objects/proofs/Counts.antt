-- How many objects tokens begin, and how many a JSON tree has.
use Rattle.std.proofs.Common.{ℕ, ◌+◌, List, [], ◌∷◌}
use Rattle.json.specs.Token as token
use Rattle.json.specs.Token.{Token}
use Rattle.json.specs.Lex.{Lexeme, comma, colon}
use Rattle.json.specs.Json as json

abbrev pub begun_by : Token → ℕ
begun_by token.begin_object = 1
begun_by _ = 0

abbrev pub begun : List Token → ℕ
begun [] = 0
begun (t ∷ ts) = begun_by t + begun ts

abbrev pub begun_in : List Lexeme → ℕ
begun_in [] = 0
begun_in (Lexeme.token t ∷ ls) = begun_by t + begun_in ls
begun_in (comma ∷ ls) = begun_in ls
begun_in (colon ∷ ls) = begun_in ls

abbrev mutual
  pub tree_objects : json.Json → ℕ
  tree_objects json.null = 0
  tree_objects (json.boolean b) = 0
  tree_objects (json.number s) = 0
  tree_objects (json.string s) = 0
  tree_objects (json.array js) = tree_item_objects js
  tree_objects (json.object ms) = 1 + tree_member_objects ms

  pub tree_item_objects : json.Items → ℕ
  tree_item_objects json.no_items = 0
  tree_item_objects (json.item j js) = tree_objects j + tree_item_objects js

  pub tree_member_objects : json.Members → ℕ
  tree_member_objects json.no_members = 0
  tree_member_objects (json.member k j ms) = tree_objects j + tree_member_objects ms
