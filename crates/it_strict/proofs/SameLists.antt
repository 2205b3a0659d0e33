-- Where nothing is found, two digest lists name the same paths.
use Rattle.std.proofs.Common.{◌≡◌, ◌≢◌, ℕ, List, [], Bool, true, false, Contains, IsTrue, refl}
use Rattle.std.proofs.Common.{subst}
use Rattle.std.specs.FinMap.{contains_key}
use Rattle.it_digest.specs.DigestSet.{in_sha256, in_sha512}
use Rattle.it_digest.specs.declared.sums.ListAlgorithm.{ListAlgorithm}
use Rattle.it_digest.specs.declared.sums.ListAlgorithm.TheVariants.{Sha256, Sha512}
use Rattle.it_digest.proofs.SumsLemmas.{SumsOf_same}
use Rattle.it_base.proofs.Members.{in_none}
use Rattle.it_strict.specs.ListedOnce.{AreListedOnce, IsAloneIn}
use Rattle.it_strict.specs.StrictLaws.{ListsNameTheSame}
use Rattle.it_strict.specs.declared.listed_once.ListedOnce.{ListedOnce}

never_not : (b : Bool) → ¬ (¬ IsTrue b) → IsTrue b
never_not true h = refl
never_not false h = absurd (h (λ e. cc e))

-- no list alone names a path
none_alone : (sums sums512 : List ℕ) (found : List ListedOnce) (h : AreListedOnce sums sums512 found)
    → found ≡ [] → sums ≢ [] → sums512 ≢ [] → (list : ListAlgorithm) (path : List ℕ)
    → ¬ IsAloneIn list h.by_sha256 h.by_sha512 path
none_alone sums sums512 found h none some others list path alone =
    let once : ListedOnce = record { path = path; list = list } in
    in_none once (subst (λ all. Contains all once) none
    ((h.exact once).1 (some, others, alone)))

pub lists_name_the_same : ListsNameTheSame
lists_name_the_same panel inputs documents evidence found m n path are nothing some others a b =
    let h = are.listed_once in
    let never = none_alone inputs.sums inputs.sums512 found.listed_once h nothing.listed_once some
    others in
    let one : m ≡ h.by_sha256 = SumsOf_same in_sha256 inputs.sums h.by_sha256 m h.first a in
    let other : n ≡ h.by_sha512 = SumsOf_same in_sha512 inputs.sums512 h.by_sha512 n h.second b in
    rw (one, other) (
      λ stands. never_not (contains_key h.by_sha512 path)
          (λ lacks. never Sha256 path (stands, lacks)),
      λ stands. never_not (contains_key h.by_sha256 path)
          (λ lacks. never Sha512 path (stands, lacks)),
    )
