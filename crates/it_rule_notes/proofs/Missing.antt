-- The rules that miss a path.
use Rattle.std.proofs.Common.{◌≡◌, ◌⊎◌, inl, inr, ℕ, List, Option, Some, IfSome, subst, sym}
use Rattle.it_rule_notes.specs.Met.{Judging}
use Rattle.it_rule_notes.specs.Missed.{IsMissed, Misses}
use Rattle.it_rule_notes.specs.declared.missed.Miss.{Miss}
use Rattle.it_rule_notes.specs.declared.missed.Missed.{Missed}

-- what holds of either of two holds of the one that is taken
pub taken : {X : Type 0} (P : X → Type 0) (one first second : Option X)
    → (one ≡ first) ⊎ (one ≡ second) → IfSome first P → IfSome second P → IfSome one P
taken P one first second (inl same) of_first of_second =
    subst (λ found. IfSome found P) (sym same) of_first
taken P one first second (inr same) of_first of_second =
    subst (λ found. IfSome found P) (sym same) of_second

module _ (judging : Judging) (index : ℕ) (path : List ℕ) (missed : Missed) where
  missed_as : (miss : Miss) → IsMissed judging index path missed
      → Misses judging missed.target path miss
      → IsMissed judging index path (record {
        index = missed.index;
        target = missed.target;
        miss = miss;
      })
  missed_as miss is why = record {
    rule = is.rule;
    is_before = is.is_before;
    is_rule = is.is_rule;
    looks = is.looks;
    misses = why;
  }

  -- a rule misses a path also for the reason that was found instead
  pub nearer_missed : (found : Option Miss) (miss : Miss)
      → (miss ≡ missed.miss) ⊎ (found ≡ Some miss)
      → ((other : List ℕ) → IfSome found (Misses judging missed.target other))
      → IsMissed judging index path missed
      → IsMissed judging index path (record {
        index = missed.index;
        target = missed.target;
        miss = miss;
      })
  nearer_missed found miss (inl same) told is =
      missed_as miss is (subst (Misses judging missed.target path) (sym same) is.misses)
  nearer_missed found miss (inr some) told is =
      missed_as miss is (subst (λ one. IfSome one (Misses judging missed.target path)) some
      (told path))
