-- What was answered over a folder and over those in it stays right where one answer more is kept, and
-- where the answers over one folder in it are taken out and others are given back.
use Rattle.std.proofs.Common.{◌≡◌, ℕ, zero, suc, List, Option, None, Some, MatchOption}
use Rattle.std.proofs.Common.{Bool, true, false, cond, bytes_eq, refl, sym, subst, ◌∙◌}
use Rattle.std.proofs.lemmas.Option.{same_Some}
use Rattle.std.proofs.lemmas.Slice.Eq.{bytes_eq-Decides}
use Rattle.it_chain.specs.Answered.{AreRight, AreWithin, IsAnswer, IsFresh, IsGiven, IsTaken}
use Rattle.it_chain.specs.Answered.{answer_at, named_folder, within_at}
use Rattle.it_chain.specs.Contents.{Contents}
use Rattle.it_chain.specs.CountedBodies.{Setting}
use Rattle.it_chain.specs.inside.Answered.{IsKept, IsKeptIf}
use Rattle.it_chain.specs.declared.answered.Answer.{Answer}
use Rattle.it_chain.specs.declared.answered.AnsweredSublayouts.{AnsweredSublayouts}

pub right_within : (setting : Setting) (depth : ℕ) (bundle : Contents) (within : AnsweredSublayouts)
    → AreWithin setting depth bundle within → AreRight setting depth bundle within
right_within setting zero bundle within h = h
right_within setting (suc depth) bundle within h = h.0

none_right : (setting : Setting) (depth : ℕ) (bundle : Contents) (within : AnsweredSublayouts)
    → IsFresh within → AreRight setting depth bundle within
none_right setting depth bundle within none payload answer at =
    let nothing : answer_at within payload ≡ None = none.0 payload in cc

pub none_within : (setting : Setting) (depth : ℕ) (bundle : Contents) (within : AnsweredSublayouts)
    → IsFresh within → AreWithin setting depth bundle within
none_within setting zero bundle within none = none_right setting zero bundle within none
none_within setting (suc depth) bundle within none = (
  none_right setting (suc depth) bundle within none,
  λ name further at. let nothing : within_at within name ≡ None = none.1 name in cc,
)

-- what is left where one was taken out
left_of : (same : Bool) (before : Option AnsweredSublayouts) (within : AnsweredSublayouts)
    → cond same None before ≡ Some within → before ≡ Some within
left_of true before within h = cc
left_of false before within h = h

module _ (setting : Setting) (depth : ℕ) (bundle : Contents) where
  -- ---- one answer more
  module _ (old new : AnsweredSublayouts) (payload : List ℕ) (answer : Answer)
      (is : IsAnswer setting depth bundle payload answer) (kept : IsKept old new payload answer)
    where
      here_or_before : AreRight setting depth bundle old → (p : List ℕ) (a : Answer) (same : Bool)
          → bytes_eq payload p ≡ same → cond same (Some answer) (answer_at old p) ≡ Some a
          → IsAnswer setting depth bundle p a
      here_or_before are p a true at h =
          subst (λ x. IsAnswer setting depth bundle x a) ((bytes_eq-Decides payload p).0 at)
          (subst (IsAnswer setting depth bundle payload) (same_Some answer a h) is)
      here_or_before are p a false at h = are p a h

      kept_right : AreRight setting depth bundle old → AreRight setting depth bundle new
      kept_right are p a at =
          here_or_before are p a (bytes_eq payload p) refl (sym (kept.0 p) ∙ at)

  -- ---- the answers over one folder are taken out, and others are given back
  module _ (old : AnsweredSublayouts) (are : AreWithin setting (suc depth) bundle old)
      (name : List ℕ) where
    taken_from : (found : Option AnsweredSublayouts) → within_at old name ≡ found
        → (within : AnsweredSublayouts) → MatchOption found (IsFresh within) (λ w. within ≡ w)
        → AreWithin setting depth (named_folder bundle name) within
    taken_from None at within fresh =
        none_within setting depth (named_folder bundle name) within fresh
    taken_from (Some w) at within is =
        subst (AreWithin setting depth (named_folder bundle name)) (sym is) (are.1 name w at)

    pub taken_within : (within : AnsweredSublayouts)
        → MatchOption (within_at old name) (IsFresh within) (λ w. within ≡ w)
        → AreWithin setting depth (named_folder bundle name) within
    taken_within = taken_from (within_at old name) refl

    module _ (left new within : AnsweredSublayouts) (taken : IsTaken old left name)
        (given : IsGiven left new name within)
        (right : AreWithin setting depth (named_folder bundle name) within) where
      over_folder : (f : List ℕ) (w : AnsweredSublayouts) (same : Bool) → bytes_eq name f ≡ same
          → cond same (Some within) (within_at left f) ≡ Some w
          → AreWithin setting depth (named_folder bundle f) w
      over_folder f w true at h =
          subst (λ x. AreWithin setting depth (named_folder bundle x) w)
          ((bytes_eq-Decides name f).0 at)
          (subst (AreWithin setting depth (named_folder bundle name)) (same_Some within w h) right)
      over_folder f w false at h =
          are.1 f w (left_of (bytes_eq name f) (within_at old f) w (sym (taken.1 f) ∙ h))

      pub given_answers : AreWithin setting (suc depth) bundle new
      given_answers = (
        λ payload answer at. are.0 payload answer
            (sym (taken.0 payload) ∙ sym (given.0 payload) ∙ at),
        λ f w at. over_folder f w (bytes_eq name f) refl (sym (given.1 f) ∙ at),
      )

kept_within : (setting : Setting) (depth : ℕ) (bundle : Contents)
    (old new : AnsweredSublayouts) (payload : List ℕ) (answer : Answer)
    → IsAnswer setting depth bundle payload answer → IsKept old new payload answer
    → AreWithin setting depth bundle old → AreWithin setting depth bundle new
kept_within setting zero bundle old new payload answer is kept are =
    kept_right setting zero bundle old new payload answer is kept are
kept_within setting (suc depth) bundle old new payload answer is kept are = (
  kept_right setting (suc depth) bundle old new payload answer is kept are.0,
  λ f w at. are.1 f w (sym (kept.1 f) ∙ at),
)

pub kept_if_within : (setting : Setting) (depth : ℕ) (bundle : Contents)
    (old new : AnsweredSublayouts) (payload : List ℕ) (answer : Answer) (again : Bool)
    → IsAnswer setting depth bundle payload answer → IsKeptIf again old new payload answer
    → AreWithin setting depth bundle old → AreWithin setting depth bundle new
kept_if_within setting depth bundle old new payload answer true is kept are =
    kept_within setting depth bundle old new payload answer is kept are
kept_if_within setting depth bundle old new payload answer false is same are =
    subst (AreWithin setting depth bundle) (sym same) are

-- the answers over the folder of a sublayout, of the level above and of its own level
module _ (setting : Setting) (depth d : ℕ) (is : depth ≡ suc d) (bundle folder : Contents)
    (same : bundle ≡ folder) (within : AnsweredSublayouts) where
  pub within_below : AreWithin setting depth folder within
      → AreWithin setting (suc d) bundle within
  within_below h = subst (λ b. AreWithin setting (suc d) b within) (sym same)
      (subst (λ n. AreWithin setting n folder within) is h)

  pub within_above : AreWithin setting (suc d) bundle within
      → AreWithin setting depth folder within
  within_above h = subst (λ n. AreWithin setting n folder within) (sym is)
      (subst (λ b. AreWithin setting (suc d) b within) same h)
