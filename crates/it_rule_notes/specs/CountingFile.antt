-- Which files hold what counts for a step (in-toto 1.0 section 5.2, verifying the final product).
use Rattle.std.specs.Prelude.{◌≡◌, ℕ, ℤ, List, [], ◌∷◌, Contains}
use Rattle.it_dsse.specs.Panel.{Panel}
use Rattle.it_docs.specs.Layout.{LayoutOf}
use Rattle.it_docs.specs.declared.layout.Layout.{Layout}
use Rattle.it_docs.specs.declared.step.Step.{Step}
use Rattle.it_chain.specs.Contents.{Contents, contents_of, files_of, no_folders}
use Rattle.it_chain.specs.CountedBodies.{Counted, Setting}
use Rattle.it_chain.specs.declared.bundle.File.{File}
use Rattle.it_rule_notes.specs.declared.counting_file.CountingFile.{CountingFile}

-- the setting of a panel and a moment
abbrev pub setting_of : Panel → ℤ → Setting
setting_of panel moment = record { panel = panel; moment = moment }

-- a file of the bundle has this name, and alone makes these bytes count for a step under a key id
pub record FileCounts (setting : Setting) (layout : Layout) (bundle : Contents) (step : Step)
    (id : List ℕ) (found : CountingFile) : Type 0 where
  pub file : File
  pub stands : Contains (files_of bundle) file
  pub name_is : found.name ≡ file.name
  pub counts : Counted setting layout (contents_of (file ∷ []) no_folders) step id found.payload

-- the bytes are a layout
pub record IsLayoutBody (bytes : List ℕ) : Type 0 where
  pub layout : Layout
  pub reads : LayoutOf bytes layout
