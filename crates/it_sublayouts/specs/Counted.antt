-- Which sublayouts of a layout count, down to a depth (in-toto 1.0 sections 4.4 and 5.2; their
-- order, and that each is listed once over a folder, are this profile's choice).
use Rattle.std.specs.Prelude.{◌≡◌, ℕ, zero, suc, List, [], ◌∷◌, ◌++◌, Contains, map}
use Rattle.it_dsse.specs.Panel.{Panel}
use Rattle.it_dsse.specs.Signed.{IsSigner}
use Rattle.it_docs.specs.declared.layout.Layout.{Layout}
use Rattle.it_docs.specs.declared.step.Step.{Step}
use Rattle.it_chain.specs.Answer.{signers}
use Rattle.it_chain.specs.Chain.{Chain, none_holds}
use Rattle.it_chain.specs.Contents.{Contents}
use Rattle.it_chain.specs.CountedBodies.{Setting}
use Rattle.it_chain.specs.Level.{Holding}
use Rattle.it_chain.specs.Sublayouts.{IsSublayout, folder_name, folder_of}
use Rattle.it_sublayouts.specs.declared.counted.CountedSublayout.{CountedSublayout}
use Rattle.it_sublayouts.specs.declared.level.Level.{Level}

-- the names of a step and of the key id that signed a sublayout for it
abbrev pub Place : Type 0
Place = List ℕ × List ℕ

-- the names of the folders, one in another, that the files of the sublayout at these places are in
abbrev pub folders_of : List Place → List (List ℕ)
folders_of places = map (λ place. folder_name place.0 place.1) places

-- one of these sublayouts is in this payload, and its files are in these folders
pub record IsAmong (listed : List CountedSublayout) (folders : List (List ℕ)) (payload : List ℕ)
    : Type 0 where
  pub sublayout : CountedSublayout
  pub stands : Contains listed sublayout
  pub folders_are : folders_of sublayout.at ≡ folders
  pub payload_is : sublayout.payload ≡ payload

-- what is listed after what was listed before
abbrev pub After : Type 1
After = List CountedSublayout → List CountedSublayout → Type 0

-- what is listed for each element in turn, each time after all that was listed before
abbrev pub InTurn : {X : Type 0} → (X → After) → List X → After
InTurn Listed [] before found = found ≡ []
InTurn Listed (x ∷ xs) before found =
    (here : List CountedSublayout) × (rest : List CountedSublayout) × (found ≡ here ++ rest)
    × Listed x before here × InTurn Listed xs (before ++ here) rest

-- what is listed of a layout over a bundle; the places lead down to the layout, the outermost first
abbrev pub Listing : Type 1
Listing = List Place → Layout → Contents → After

module _ (panel : Panel) (layout : Layout) (bundle : Contents) (step : Step) where
  -- the sublayout in a payload counts for a step under a key id
  pub record PayloadCounts (id payload : List ℕ) : Type 0 where
    pub sublayout : Layout
    pub counts : IsSublayout (IsSigner panel) layout bundle step id sublayout
    pub payload_is : payload ≡ counts.envelope.payload

module _ (below : Listing) (holds : Holding) (setting : Setting) (at : List Place)
    (layout : Layout) (bundle : Contents) where
  -- a sublayout counts for a step under a key id: its place is one further down, it is read from
  -- the payload of its envelope, and it holds with its records over its own folder
  pub record CountsFor (step : Step) (id : List ℕ) (sublayout : CountedSublayout) : Type 0 where
    pub at_is : sublayout.at ≡ at ++ (step.name, id) ∷ []
    pub counts : IsSublayout (IsSigner setting.panel) layout bundle step id sublayout.layout
    pub payload_is : sublayout.payload ≡ counts.envelope.payload
    pub records : holds sublayout.layout (folder_of step.name id bundle) sublayout.steps

  -- for a step under a key id: none where one listed before has the folders and the payload of each
  -- that counts, or else one that counts, of which none before has them, and then those below it
  abbrev pub ListedFor : Step → List ℕ → After
  ListedFor step id before [] =
      (payload : List ℕ) → PayloadCounts setting.panel layout bundle step id payload
      → IsAmong before (folders_of (at ++ (step.name, id) ∷ [])) payload
  ListedFor step id before (sublayout ∷ others) =
      CountsFor step id sublayout
      × ¬ IsAmong before (folders_of sublayout.at) sublayout.payload
      × below sublayout.at sublayout.layout (folder_of step.name id bundle)
      (before ++ sublayout ∷ []) others

  -- for a step: under each key id that it lists and the layout has, in the order of the ids' bytes
  abbrev pub ListedForStep : Step → After
  ListedForStep step = InTurn (λ signer. ListedFor step signer.0) (signers layout step)

-- for each step of a layout, in its order
abbrev pub LevelListed : Listing → Holding → Setting → Listing
LevelListed below holds setting at layout bundle =
    InTurn (ListedForStep below holds setting at layout bundle) layout.steps

-- nothing is listed of any layout
abbrev pub none_listed : Listing
none_listed at layout bundle before found = ⊥

-- the sublayouts that count, down to a depth: at depth 0 there are none, and at each greater depth
-- those of the layout itself, each with those below it at one depth less
abbrev pub AreCountedAfter : Setting → ℕ → Listing
AreCountedAfter setting zero = LevelListed none_listed none_holds setting
AreCountedAfter setting (suc depth) =
    LevelListed (AreCountedAfter setting depth) (Chain setting depth) setting

-- the same where none was listed before
abbrev pub AreCounted : Setting → ℕ → List Place → Layout → Contents → List CountedSublayout
    → Type 0
AreCounted setting depth at layout bundle = AreCountedAfter setting depth at layout bundle []

-- what a layout and its sublayouts are checked with
abbrev pub setting_of : Panel → Level → Setting
setting_of panel level = record { panel = panel; moment = level.moment }

-- those of a level
abbrev pub AreCountedIn : Panel → Level → List CountedSublayout → Type 0
AreCountedIn panel level =
    AreCounted (setting_of panel level) level.depth level.at.now level.layout.now level.links.now

-- the layout of a level holds
abbrev pub LevelStands : Panel → Level → Type 0
LevelStands panel level =
    (results : _)
    × Chain (setting_of panel level) level.depth level.layout.now level.links.now results
