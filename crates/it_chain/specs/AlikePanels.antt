-- Panels of checks that are alike on the keys that a layout can ask for (specific to this project;
-- no standard covers it).
use Rattle.std.specs.Prelude.{◌≡◌, ◌↔◌, ℕ, zero, suc, List, Some, IsTrue}
use Rattle.std.specs.FinMap.{get}
use Rattle.it_base.specs.Table.{Named}
use Rattle.it_dsse.specs.Panel.{KeyNumber, Panel}
use Rattle.it_dsse.specs.Signed.{IsSigner}
use Rattle.it_dsse.specs.declared.key_object.KeyObject.{KeyObject}
use Rattle.it_docs.specs.declared.layout.Layout.{Layout}
use Rattle.it_docs.specs.declared.step.Step.{Step}
use Rattle.it_chain.specs.Contents.{Contents}
use Rattle.it_chain.specs.Sublayouts.{IsSublayout, folder_of}

-- a signature of a message is valid by a panel for the key that an id and an object name
pub record IsValidBy (panel : Panel) (id : List ℕ) (object : KeyObject) (message sig : List ℕ)
    : Type 0 where
  pub key : KeyNumber
  pub names : panel.key_of id object ≡ Some key
  pub valid : IsTrue (panel.is_valid key message sig)

-- two objects under their ids name one key
pub record IsOneKey (panel : Panel) (id : List ℕ) (object : KeyObject) (other : List ℕ)
    (another : KeyObject) : Type 0 where
  pub key : KeyNumber
  pub first : panel.key_of id object ≡ Some key
  pub second : panel.key_of other another ≡ Some key

-- two panels are alike on key objects: they accept the same signatures for each, and take the same
-- pairs for one key, whatever numbers they give the keys
pub record PanelsAlike (panel other : Panel) (objects : Named KeyObject) : Type 0 where
  pub valid : (id : List ℕ) (object : KeyObject) (message sig : List ℕ)
      → get objects id ≡ Some object
      → IsValidBy panel id object message sig ↔ IsValidBy other id object message sig
  pub one_key : (id : List ℕ) (object : KeyObject) (second : List ℕ) (another : KeyObject)
      → get objects id ≡ Some object → get objects second ≡ Some another
      → IsOneKey panel id object second another ↔ IsOneKey other id object second another

-- two panels are alike on the keys of a layout, and on those of each sublayout that counts with the
-- first panel, down to a depth of sublayouts
abbrev pub PanelsAlikeOver : Panel → Panel → ℕ → Layout → Contents → Type 0
PanelsAlikeOver panel other zero layout bundle = PanelsAlike panel other layout.keys
PanelsAlikeOver panel other (suc depth) layout bundle = PanelsAlike panel other layout.keys
    × ((step : Step) (id : List ℕ) (sublayout : Layout)
    → IsSublayout (IsSigner panel) layout bundle step id sublayout
    → PanelsAlikeOver panel other depth sublayout (folder_of step.name id bundle))
