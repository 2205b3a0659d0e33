-- Which key objects no check knows (which keys a check knows is this profile's choice).
use Rattle.std.specs.FinMap.{get}
use Rattle.std.specs.Prelude.{◌≡◌, ℕ, List, None, Some, Contains}
use Rattle.it_base.specs.Table.{Named}
use Rattle.it_docs.specs.declared.policy.Builder.{Builder}
use Rattle.it_dsse.specs.Panel.{Panel}
use Rattle.it_dsse.specs.declared.key_object.KeyObject.{KeyObject}
use Rattle.it_key_notes.specs.Reasons.{IsReason}
use Rattle.it_key_notes.specs.declared.unknown_key.UnknownKey.{UnknownKey}

module _ (panel : Panel) where
  -- no check knows the object under the id, for the reason of the note
  pub record IsUnknown (id : List ℕ) (object : KeyObject) (note : UnknownKey) : Type 0 where
    pub id_is : note.id ≡ id
    pub unknown : panel.key_of id object ≡ None
    pub is_so : IsReason object note.reason

  -- it is one of these objects
  pub record IsUnknownIn (objects : Named KeyObject) (note : UnknownKey) : Type 0 where
    pub object : KeyObject
    pub stands : get objects note.id ≡ Some object
    pub is_unknown : IsUnknown note.id object note

  -- it is under one of these ids
  pub record IsUnknownUnder (ids : List (List ℕ)) (objects : Named KeyObject) (note : UnknownKey)
      : Type 0 where
    pub listed : Contains ids note.id
    pub is_one : IsUnknownIn objects note

  -- it is a key of one of these builders
  pub record IsUnknownOfBuilders (builders : List Builder) (note : UnknownKey) : Type 0 where
    pub builder : Builder
    pub is_builder : Contains builders builder
    pub is_one : IsUnknownIn builder.keys note
