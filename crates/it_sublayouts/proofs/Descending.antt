-- A sublayout that counts, one level down.
use Rattle.std.proofs.Common.{◌≡◌, ◌<◌, ◌-◌, ◌∙◌, ℕ, suc, List, [], ◌∷◌, ◌++◌, Contains, arith}
use Rattle.std.proofs.Common.{Bor, Option, ap, get_or, length, map, option_map, subst, sym}
use Rattle.std.proofs.Common.{unwrap_or}
use Rattle.std.proofs.lemmas.List.{get_or-map, length-map}
use Rattle.std.proofs.lemmas.List.Elements.{Contains-get_or}
use Rattle.it_dsse.specs.Panel.{Panel}
use Rattle.it_dsse.specs.declared.key_object.KeyObject.{KeyObject}
use Rattle.it_chain.specs.Answer.{signers as signers_of}
use Rattle.it_chain.specs.Answered.{AreWithin}
use Rattle.it_chain.specs.Chain.{Chain, holds_below}
use Rattle.it_chain.specs.Contents.{Contents, empty, folder_at}
use Rattle.it_chain.specs.Signers.{entry_of}
use Rattle.it_chain.specs.Sublayouts.{folder_name, folder_of}
use Rattle.it_chain.specs.declared.answered.AnsweredSublayouts.{AnsweredSublayouts}
use Rattle.it_chain.specs.declared.chain.StepResult.{StepResult}
use Rattle.it_chain.specs.declared.signers.Signer.{Signer}
use Rattle.it_chain.proofs.AnswersOver.{within_above, within_below}
use Rattle.it_chain.proofs.SignerLists.{is_signer}
use Rattle.it_chain.proofs.Walks.{folder_or}
use Rattle.it_sublayouts.specs.Counted.{AreCountedAfter, InTurn, Place, setting_of}
use Rattle.it_sublayouts.specs.declared.counted.CountedSublayout.{CountedSublayout}
use Rattle.it_sublayouts.specs.declared.level.StepAt.{StepAt}
use Rattle.it_sublayouts.specs.declared.signed_layout.SignedLayout.{SignedLayout}
use Rattle.it_sublayouts.specs.inside.Below.{IdListed, IsWithThoseBelow, SignerStands, StepListed}
use Rattle.it_sublayouts.specs.inside.Below.{StepStands}
use Rattle.it_sublayouts.specs.inside.Signed.{IsSignedFor}
use Rattle.it_sublayouts.proofs.Standing.{holds_higher, holds_lower, listed_higher, some_depth}
use Rattle.it_sublayouts.proofs.Standing.{sublayout_holds}
use Rattle.it_sublayouts.proofs.Turns.{in_turn_image}

-- what is listed under each key id is listed for the step
pub step_listed : (panel : Panel) (at : StepAt) (signers : List Signer)
    (before found : List CountedSublayout)
    → map entry_of signers ≡ signers_of at.level.now.layout.now at.step.now
    → InTurn (λ (signer : Signer). IdListed panel at signer.id.now) signers before found
    → StepListed panel at before found
step_listed panel at signers before found are so =
    subst (λ ids. InTurn (λ (entry : List ℕ × KeyObject). IdListed panel at entry.0) ids before
    found) are
    (in_turn_image entry_of (λ (entry : List ℕ × KeyObject). IdListed panel at entry.0) signers
    before found so)

-- each of the signers stands
pub signer_stands : (at : StepAt) (ids : List Signer)
    → map entry_of ids ≡ signers_of at.level.now.layout.now at.step.now → (i : ℕ) (signer : Signer)
    → i < length ids → signer ≡ get_or ids i signer → SignerStands at signer
signer_stands at ids are i signer below is =
    let among : Contains ids signer =
    subst (Contains ids) (sym is) (Contains-get_or ids i signer below) in
    let long : i < length (map entry_of ids) = omega (arith, below, length-map ids entry_of) in
    let image : Contains (map entry_of ids) (entry_of signer) =
    subst (Contains (map entry_of ids)) (get_or-map entry_of ids i signer (entry_of signer) below
    ∙ ap entry_of (sym is))
    (Contains-get_or (map entry_of ids) i (entry_of signer) long) in
    let both = (is_signer at.level.now.layout.now at.step.now signer.id.now signer.object.now).0
    (subst (λ entries. Contains entries (entry_of signer)) are image) in
    record { listed = both.0; known = both.1 }

-- ---- one level down
module _ (panel : Panel) (at : StepAt) (id : List ℕ) (signed : SignedLayout)
    (stands : StepStands panel at)
    (is : IsSignedFor panel at.level.now.layout.now at.level.now.links.now at.step.now id signed)
  where
    -- the sublayout as it is listed
    abbrev pub first_of : List Place → List StepResult → CountedSublayout
    first_of place steps =
        record { at = place; payload = signed.payload; layout = signed.layout; steps = steps }

    abbrev folder : Contents
    folder = folder_of at.step.now.name id at.level.now.links.now

    inner : (results : List StepResult) × holds_below (setting_of panel at.level.now)
        at.level.now.depth signed.layout folder results
    inner = sublayout_holds (setting_of panel at.level.now) at.level.now.layout.now
        at.level.now.links.now at.step.now id signed.layout is.counts at.level.now.depth
        stands.holds.0 stands.holds.1

    pub is_deep : 0 < at.level.now.depth
    is_deep =
        some_depth (setting_of panel at.level.now) at.level.now.depth signed.layout folder inner.0
        inner.1

    next : at.level.now.depth ≡ suc (at.level.now.depth - 1)
    next = omega (arith, is_deep)

    -- the sublayout holds there
    pub holds_there : (bundle : Contents) → bundle ≡ folder
        → (results : List StepResult) × Chain (setting_of panel at.level.now)
        (at.level.now.depth - 1) signed.layout bundle results
    holds_there bundle same = (
      inner.0,
      subst (λ b. Chain (setting_of panel at.level.now) (at.level.now.depth - 1) signed.layout b
          inner.0) (sym same)
          (holds_lower (setting_of panel at.level.now) at.level.now.depth (at.level.now.depth - 1) next
          signed.layout folder inner.0 inner.1),
    )

    -- what was answered over its folder is right for the sublayout's own level, and the other way
    pub answers_below : (bundle : Contents) → bundle ≡ folder → (within : AnsweredSublayouts)
        → AreWithin (setting_of panel at.level.now) at.level.now.depth folder within
        → AreWithin (setting_of panel at.level.now) (suc (at.level.now.depth - 1)) bundle within
    answers_below bundle same =
        within_below (setting_of panel at.level.now) at.level.now.depth (at.level.now.depth - 1)
        next bundle folder same

    pub answers_above : (bundle : Contents) → bundle ≡ folder → (within : AnsweredSublayouts)
        → AreWithin (setting_of panel at.level.now) (suc (at.level.now.depth - 1)) bundle within
        → AreWithin (setting_of panel at.level.now) at.level.now.depth folder within
    answers_above bundle same =
        within_above (setting_of panel at.level.now) at.level.now.depth (at.level.now.depth - 1)
        next bundle folder same

    -- it is listed with those below it
    pub listed_with : (bundle : Contents) → bundle ≡ folder → (place : List Place)
        → place ≡ at.level.now.at.now ++ (at.step.now.name, id) ∷ [] → (steps : List StepResult)
        → Chain (setting_of panel at.level.now) (at.level.now.depth - 1) signed.layout bundle steps
        → (before others : List CountedSublayout)
        → AreCountedAfter (setting_of panel at.level.now) (at.level.now.depth - 1) place
        signed.layout bundle (before ++ first_of place steps ∷ []) others
        → IsWithThoseBelow panel at id before (first_of place steps ∷ others)
    listed_with bundle same place placed steps holds before others counted =
        let setting = setting_of panel at.level.now in
        let depth = at.level.now.depth in
        let more = before ++ first_of place steps ∷ [] in
        let there = subst (λ b. Chain setting (depth - 1) signed.layout b steps) same holds in
        let below = subst (λ b. AreCountedAfter setting (depth - 1) place signed.layout b more
        others) same counted in (
          record {
            at_is = placed;
            counts = is.counts;
            payload_is = is.payload_is;
            records =
                holds_higher setting depth (depth - 1) next signed.layout folder steps there;
          },
          listed_higher setting depth (depth - 1) next place signed.layout folder more others
              below,
        )

-- the folder that is found is that of the sublayout
pub folder_found : (step id : List ℕ) (links : Contents) (name : List ℕ)
    (found : Option (Bor Contents)) (none : Bor Contents) → name ≡ folder_name step id
    → option_map (λ (x : Bor Contents). x.now) found ≡ folder_at name links → none.now ≡ empty
    → (unwrap_or found none).now ≡ folder_of step id links
folder_found step id links name found none named is bare =
    folder_or found none (folder_at name links) is bare
    ∙ ap (λ n. unwrap_or (folder_at n links) empty) named
