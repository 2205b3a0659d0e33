-- What the private functions list of a level. Nothing here is trusted.
use Rattle.std.specs.Prelude.{◌≡◌, ◌↔◌, ◌⊎◌, ℕ, zero, suc, List, [], ◌∷◌, ◌++◌}
use Rattle.std.specs.Prelude.{Contains, IsTrue, Some, map}
use Rattle.std.specs.FinMap.{get}
use Rattle.it_dsse.specs.Panel.{Panel}
use Rattle.it_dsse.specs.Signed.{AreThose}
use Rattle.it_chain.specs.Answered.{AreWithin}
use Rattle.it_chain.specs.Chain.{holds_below}
use Rattle.it_chain.specs.Contents.{files_of}
use Rattle.it_chain.specs.CountedBodies.{Setting}
use Rattle.it_chain.specs.Sublayouts.{folder_of}
use Rattle.it_chain.specs.declared.answered.AnsweredSublayouts.{AnsweredSublayouts}
use Rattle.it_chain.specs.declared.signers.Signer.{Signer}
use Rattle.it_sublayouts.specs.Counted.{After, AreCountedAfter, CountsFor, IsAmong, LevelStands}
use Rattle.it_sublayouts.specs.Counted.{ListedFor}
use Rattle.it_sublayouts.specs.Counted.{ListedForStep, Listing, PayloadCounts, none_listed}
use Rattle.it_sublayouts.specs.Counted.{setting_of}
use Rattle.it_sublayouts.specs.declared.counted.CountedSublayout.{CountedSublayout}
use Rattle.it_sublayouts.specs.declared.level.Level.{Level}
use Rattle.it_sublayouts.specs.declared.level.StepAt.{StepAt}
use Rattle.it_sublayouts.specs.declared.listed.ListedSublayouts.{ListedSublayouts}
use Rattle.it_sublayouts.specs.inside.Listed.{was_listed}
use Rattle.it_sublayouts.specs.inside.Signed.{IsLayoutFile}

-- what is listed of the sublayouts of a level
abbrev pub listed_below : Setting → ℕ → Listing
listed_below setting zero = none_listed
listed_below setting (suc depth) = AreCountedAfter setting depth

-- a step of a level whose layout holds, and those files of the level that are layouts
pub record StepStands (panel : Panel) (at : StepAt) : Type 0 where
  pub holds : LevelStands panel at.level.now
  pub is_step : Contains at.level.now.layout.now.steps at.step.now
  pub files : AreThose IsLayoutFile (files_of at.level.now.links.now)
      (map (λ file. file.now) at.files.now)

-- a key id that the step lists and the layout has
pub record SignerStands (at : StepAt) (signer : Signer) : Type 0 where
  pub listed : Contains at.step.now.pubkeys signer.id.now
  pub known : get at.level.now.layout.now.keys signer.id.now ≡ Some signer.object.now

-- what was answered for sublayouts over the bundle of a level, and over the folders in it, is right
abbrev pub AreAnswers : Panel → Level → AnsweredSublayouts → Type 0
AreAnswers panel level answered =
    AreWithin (setting_of panel level) (suc level.depth) level.links.now answered

-- what is listed of the level
abbrev pub LevelListedAfter : Panel → Level → After
LevelListedAfter panel level =
    AreCountedAfter (setting_of panel level) level.depth level.at.now level.layout.now
    level.links.now

-- for the step
abbrev pub StepListed : Panel → StepAt → After
StepListed panel at =
    let level = at.level.now in
    let setting = setting_of panel level in
    ListedForStep (listed_below setting level.depth) (holds_below setting level.depth) setting
    level.at.now level.layout.now level.links.now at.step.now

-- and under a key id
abbrev pub IdListed : Panel → StepAt → List ℕ → After
IdListed panel at =
    let level = at.level.now in
    let setting = setting_of panel level in
    ListedFor (listed_below setting level.depth) (holds_below setting level.depth) setting
    level.at.now level.layout.now level.links.now at.step.now

-- the sublayout in a payload counts for the step under a key id
abbrev pub CountsAt : Panel → StepAt → List ℕ → List ℕ → Type 0
CountsAt panel at =
    PayloadCounts panel at.level.now.layout.now at.level.now.links.now at.step.now

-- these were listed
abbrev pub AreListed : ListedSublayouts → List CountedSublayout → Type 0
AreListed listed before =
    (folders : List (List ℕ)) (payload : List ℕ)
    → IsTrue (was_listed listed folders payload) ↔ IsAmong before folders payload

-- these, and one in this payload over these folders
abbrev pub AreListedWith : ListedSublayouts → List CountedSublayout → List (List ℕ) → List ℕ
    → Type 0
AreListedWith listed before folders payload =
    (f : List (List ℕ)) (p : List ℕ) → IsTrue (was_listed listed f p)
    ↔ (IsAmong before f p ⊎ ((folders ≡ f) × (payload ≡ p)))

-- what is found is what is to be listed after what was listed, and is listed from then on
abbrev pub Lists : After → ListedSublayouts → ListedSublayouts → List CountedSublayout → Type 0
Lists Listed old new found =
    (before : List CountedSublayout) → AreListed old before
    → Listed before found × AreListed new (before ++ found)

-- a sublayout that counts for the step under a key id, and then those below it; it is listed before
-- them, though not before itself
abbrev pub IsWithThoseBelow : Panel → StepAt → List ℕ → After
IsWithThoseBelow panel at id before [] = ⊥
IsWithThoseBelow panel at id before (sublayout ∷ others) =
    let level = at.level.now in
    let setting = setting_of panel level in
    let folder = folder_of at.step.now.name id level.links.now in
    CountsFor (listed_below setting level.depth) (holds_below setting level.depth) setting
    level.at.now level.layout.now level.links.now at.step.now id sublayout
    × listed_below setting level.depth sublayout.at sublayout.layout folder
    (before ++ sublayout ∷ []) others
