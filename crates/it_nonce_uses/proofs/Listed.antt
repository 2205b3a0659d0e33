-- Lists of signatures by the signers of a step, and folders of sublayouts.
use Rattle.std.proofs.Common.{◌≡◌, ◌+◌, ◌++◌, ◌∷◌, [], ℕ, List, map, refl}
use Rattle.it_findings.specs.Joined.{JoinedFrom}
use Rattle.it_chain.specs.Contents.{Contents}
use Rattle.it_chain.specs.Sublayouts.{folder_of}
use Rattle.it_sublayouts.specs.Counted.{Place}
use Rattle.it_nonce_uses.specs.LayoutUses.{folder_below}

-- what is said of the elements of a list by an image of them
pub joined_image : {X Y F : Type 0} (f : Y → X) (R : X → List F → Type 0) (n : ℕ) (ys : List Y)
    (found : List F) → JoinedFrom (λ place y here. R (f y) here) n ys found
    → JoinedFrom (λ place x here. R x here) n (map f ys) found
joined_image f R n [] found so = so
joined_image f R n (y ∷ ys) found so =
    (so.0, so.1, so.2, so.3, joined_image f R (n + 1) ys so.1 so.4)

-- the folder one place further down
pub one_further : (at : List Place) (place : Place) (bundle : Contents)
    → folder_below (at ++ place ∷ []) bundle
    ≡ folder_of place.0 place.1 (folder_below at bundle)
one_further [] place bundle = refl
one_further (first ∷ at) place bundle =
    one_further at place (folder_of first.0 first.1 bundle)
