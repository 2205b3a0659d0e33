-- Rules that are run in order, over a queue of the paths that are free.
use Rattle.std.proofs.Common.{◌≡◌, ◌↔◌, ℕ, ◌<◌, ◌≤◌, ◌+◌, List, length, Some, arith, inl, inr}
use Rattle.std.proofs.Common.{subst}
use Rattle.std.specs.List.{slice_get}
use Rattle.std.proofs.lemmas.Bool.{cases_lt}
use Rattle.it_docs.specs.declared.rule.Rule.{Rule}
use Rattle.it_docs.specs.declared.rule.Rule.TheVariants.{Match, Create, Delete, Modify, Allow}
use Rattle.it_docs.specs.declared.rule.Rule.TheVariants.{Disallow, Require}
use Rattle.it_docs.specs.declared.rule.Side.{Side}
use Rattle.it_rules.specs.Item.{Recorded, Links}
use Rattle.it_rules.specs.Rules.{Claims, IsFree, HoldsOver, Holds, RulesHold, FailsWith}
use Rattle.it_rules.specs.Rules.{IsFirstFault}
use Rattle.it_rules.proofs.Listed.{slice_get_within, places_more}

-- a rule over the same free paths
HoldsOver-same : (rule : Rule) (A B : List ℕ → Type 0) → ((p : List ℕ) → A p ↔ B p)
    → HoldsOver rule A → HoldsOver rule B
HoldsOver-same (Match a b c d e) A B same h = tt
HoldsOver-same (Create a) A B same h = tt
HoldsOver-same (Delete a) A B same h = tt
HoldsOver-same (Modify a) A B same h = tt
HoldsOver-same (Allow a) A B same h = tt
HoldsOver-same (Disallow a) A B same h = λ path b. h path ((same path).1 b)
HoldsOver-same (Require a) A B same h = (same a).0 h

FailsWith-same : (rule : Rule) (A B : List ℕ → Type 0) (path : List ℕ) → ((p : List ℕ) → A p ↔ B p)
    → FailsWith rule A path → FailsWith rule B path
FailsWith-same (Match a b c d e) A B path same h = h
FailsWith-same (Create a) A B path same h = h
FailsWith-same (Delete a) A B path same h = h
FailsWith-same (Modify a) A B path same h = h
FailsWith-same (Allow a) A B path same h = h
FailsWith-same (Disallow a) A B path same h = record {
  is_free = (same path).0 h.is_free;
  is_match = h.is_match;
  is_least = λ other b. h.is_least other ((same other).1 b);
}
FailsWith-same (Require a) A B path same h = h

swapped : (A B : List ℕ → Type 0) → ((p : List ℕ) → A p ↔ B p) → (p : List ℕ) → B p ↔ A p
swapped A B same p = ((same p).1, (same p).0)

-- before the rule i: the free paths are those of the queue, and the earlier rules hold
pub record Running (rules : List Rule) (side : Side) (item : Recorded) (links : Links)
    (Queued : List ℕ → Type 0) (i : ℕ) : Type 0 where
  pub free : (path : List ℕ) → Queued path ↔ IsFree rules side item links i path
  pub hold : (j : ℕ) → j < i → Holds rules side item links j

module _ (rules : List Rule) (side : Side) (item : Recorded) (links : Links) where
  pub free_more : (Queued Left : List ℕ → Type 0) (i : ℕ) (rule : Rule)
      → ((path : List ℕ) → Queued path ↔ IsFree rules side item links i path)
      → slice_get rules i ≡ Some rule
      → ((path : List ℕ) → Left path ↔ (Queued path × ¬ Claims rule side item links path))
      → (path : List ℕ) → Left path ↔ IsFree rules side item links (i + 1) path
  free_more Queued Left i rule free here left path = (
    λ l. let q = (left path).0 l in let f = (free path).0 q.0 in record {
      stands = f.stands;
      unclaimed =
          λ j other lt e. places_more (λ r. ¬ Claims r side item links path) rules i rule
          f.unclaimed here q.1 j other lt e;
    },
    λ f. (left path).1 (
      (free path).1 (record {
        stands = f.stands;
        unclaimed = λ j other lt e. f.unclaimed j other (omega arith) e;
      }),
      f.unclaimed i rule (omega arith) here,
    ),
  )

  pub one_more : (Queued Left : List ℕ → Type 0) (i : ℕ) (rule : Rule)
      → Running rules side item links Queued i → slice_get rules i ≡ Some rule
      → HoldsOver rule Queued
      → ((path : List ℕ) → Left path ↔ (Queued path × ¬ Claims rule side item links path))
      → Running rules side item links Left (i + 1)
  one_more Queued Left i rule h here holds left = record {
    free = free_more Queued Left i rule h.free here left;
    hold = λ j l. elim (cases_lt j i) [
      | inl k ↦ h.hold j k
      | inr g ↦ let same : i ≡ j = omega arith in subst (Holds rules side item links) same
          (λ other e. let one : rule ≡ other = cc (here, e) in
          subst (λ (r : Rule). HoldsOver r (IsFree rules side item links i)) one
          (HoldsOver-same rule _ _ h.free holds))
    ];
  }

  pub fault_of : (Queued : List ℕ → Type 0) (i : ℕ) (rule : Rule) (path : List ℕ)
      → Running rules side item links Queued i → slice_get rules i ≡ Some rule
      → ¬ HoldsOver rule Queued → FailsWith rule Queued path
      → IsFirstFault rules side item links i path
  fault_of Queued i rule path h here fails with_path = record {
    fails = λ holds. fails (HoldsOver-same rule _ _ (swapped _ _ h.free) (holds rule here));
    before_hold = h.hold;
    path_is = λ other e. let one : rule ≡ other = cc (here, e) in
        subst (λ (r : Rule). FailsWith r (IsFree rules side item links i) path) one
        (FailsWith-same rule _ _ path h.free with_path);
  }

  pub all_run : (Queued : List ℕ → Type 0) (i : ℕ) → Running rules side item links Queued i
      → length rules ≤ i → RulesHold rules side item links
  all_run Queued i h l j rule e = h.hold j (let w = slice_get_within rules j rule e in omega arith)
      rule e

  pub fault_refutes : (i : ℕ) (path : List ℕ) → IsFirstFault rules side item links i path
      → ¬ RulesHold rules side item links
  fault_refutes i path h all = h.fails (all i)
