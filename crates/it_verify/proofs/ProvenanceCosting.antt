-- How many checks the search for the provenance of delivered files asks for.
use Rattle.std.proofs.Common.{◌≡◌, ℕ, ◌+◌, ◌*◌, ◌≤◌, List, [], ◌∷◌, ◌++◌, map, ⊎_elim, refl, sym}
use Rattle.std.proofs.Common.{ap, subst, ◌∙◌, arith}
use Rattle.std.specs.FinMap.{entries, keys}
use Rattle.std.specs.List.{AllByRecursion}
use Rattle.std.proofs.lemmas.List.{append-nil, append_assoc, map-append}
use Rattle.it_base.specs.Sum.{IsSum}
use Rattle.it_base.specs.Places.{IsFirst}
use Rattle.it_digest.specs.Artifacts.{ArtifactMap}
use Rattle.it_digest.specs.declared.compare.DigestSet.{DigestSet}
use Rattle.it_dsse.specs.Panel.{Panel}
use Rattle.it_dsse.specs.Meter.{RaisedBy}
use Rattle.it_dsse.specs.declared.envelope.Envelope.{Envelope}
use Rattle.it_dsse.specs.declared.meter.Meter.{Meter}
use Rattle.it_docs.specs.declared.policy.Expectation.{Expectation}
use Rattle.it_prov.specs.Asked.{AtLeast}
use Rattle.it_prov.specs.Cost.{key_count, signature_count}
use Rattle.it_prov.specs.Finding.{NoneFits}
use Rattle.it_prov.specs.Fits.{Fits}
use Rattle.it_prov.proofs.Asking.{raised_none, raised_then}
use Rattle.it_verify.specs.VerificationCost.{FileCosts}
use Rattle.it_verify.specs.inside.Provenance.{FileAsks, FileLacks, FileProven}
use Rattle.it_verify.specs.inside.Failures.{RefusedAs}
use Rattle.it_verify.specs.declared.failure.Failure.{Failure}
use Rattle.it_verify.proofs.ProvenanceFound.{first_lacks, proven_more}

-- the sum over two lists is the sum of two
sum_append : {X : Type 0} (Costs : X → ℕ → Type 0) (xs ys : List X) (n : ℕ)
    → IsSum Costs (xs ++ ys) n → (a : ℕ) × (b : ℕ) × IsSum Costs xs a × IsSum Costs ys b
    × (n ≡ a + b)
sum_append Costs [] ys n h = (0, n, refl, h, omega arith)
sum_append Costs (x ∷ xs) ys n h =
    let rest = sum_append Costs xs ys h.1 h.3 in
    let total = h.4 in
    let parts = rest.4 in
    (h.0 + rest.0, rest.1, (h.0, rest.0, h.2, rest.2, refl), rest.3, omega arith)

-- the sum over a list and a thing more
sum_push : {X : Type 0} (Costs : X → ℕ → Type 0) (xs : List X) (x : X) (m n : ℕ) → IsSum Costs xs m
    → Costs x n → IsSum Costs (xs ++ x ∷ []) (m + n)
sum_push Costs [] x m n h k = (n, 0, k, refl, omega (arith, h))
sum_push Costs (y ∷ ys) x m n h k = let total = h.4 in
    (h.0, h.1 + n, h.2, sum_push Costs ys x h.1 n h.3 k, omega arith)

-- one file, from what is promised of the expectation that fits it
pub file_at_most : (expectations : List Expectation) (path : List ℕ) (signatures : ℕ)
    (start new : Meter)
    → ((expectation : Expectation) → Fits expectations path expectation
    → RaisedBy (λ n. n ≤ key_count expectation.builders * signatures) start new)
    → (NoneFits expectations path → new ≡ start)
    → (most : ℕ) → FileCosts expectations signatures path most → RaisedBy (λ n. n ≤ most) start new
file_at_most expectations path signatures start new fits none most =
    ⊎_elim (λ x. subst (λ m. RaisedBy (λ n. n ≤ m) start new) (sym x.2) (fits x.0 x.1))
    (λ x. raised_none most start new (none x.0))

module _ (panel : Panel) (expectations : List Expectation) (envelopes : List Envelope)
    (delivered : ArtifactMap) (start : Meter) where
  abbrev Cost : List ℕ → ℕ → Type 0
  Cost = FileCosts expectations (signature_count envelopes)

  abbrev Asks : List ℕ × DigestSet → ℕ → Type 0
  Asks = FileAsks panel expectations envelopes

  abbrev paths_of : List (List ℕ × DigestSet) → List (List ℕ)
  paths_of files = map (λ file. file.0) files

  -- the files before the rest have provenance, and the meter was raised for them
  pub record Searched (now : Meter) (rest : List (List ℕ × DigestSet)) : Type 0 where
    pub done : List (List ℕ × DigestSet)
    pub all : entries delivered ≡ done ++ rest
    pub proven : AllByRecursion (FileProven panel expectations envelopes) done
    pub at_most : (most : ℕ) → IsSum Cost (paths_of done) most → RaisedBy (λ n. n ≤ most) start now
    pub at_least : RaisedBy (AtLeast (IsSum Asks done)) start now

  pub none_searched : Searched start (entries delivered)
  none_searched = record {
    done = [];
    all = refl;
    proven = tt;
    at_most = λ most cost. raised_none most start start refl;
    at_least = let none = raised_none 0 start start refl in
        (none.0, (0, refl, omega arith), none.2);
  }

  module _ (now new : Meter) (file : List ℕ × DigestSet) (rest : List (List ℕ × DigestSet))
      (searched : Searched now (file ∷ rest)) where
    abbrev next : List (List ℕ × DigestSet)
    next = searched.done ++ file ∷ []

    all_next : entries delivered ≡ next ++ rest
    all_next = searched.all ∙ sym (append_assoc searched.done (file ∷ []) rest)

    module _ (one_at_most : (most : ℕ) → Cost file.0 most → RaisedBy (λ n. n ≤ most) now new) where
      next_at_most : (most : ℕ) → IsSum Cost (paths_of next) most
          → RaisedBy (λ n. n ≤ most) start new
      next_at_most most cost =
          let parts = sum_append Cost (paths_of searched.done) (file.0 ∷ []) most
          (subst (λ ps. IsSum Cost ps most)
          (map-append (λ (f : List ℕ × DigestSet). f.0) searched.done (file ∷ [])) cost) in
          let last = parts.3 in
          let none = last.3 in
          let first = last.4 in
          let total = parts.4 in
          raised_then (λ n. n ≤ parts.0) (λ n. n ≤ last.0) (λ n. n ≤ most) (λ m n p q. omega arith)
          start now new (searched.at_most parts.0 parts.2) (one_at_most last.0 last.2)

      -- a file more
      pub one_searched : FileProven panel expectations envelopes file
          → RaisedBy (AtLeast (Asks file)) now new → Searched new rest
      one_searched is_proven at_least = record {
        done = next;
        all = all_next;
        proven = proven_more panel expectations envelopes searched.done file searched.proven
            is_proven;
        at_most = next_at_most;
        at_least = raised_then (AtLeast (IsSum Asks searched.done)) (AtLeast (Asks file))
            (AtLeast (IsSum Asks next))
            (λ m n p q. (
              p.0 + q.0,
              sum_push Asks searched.done file p.0 q.0 p.1 q.1,
              omega (arith, p.2, q.2),
            )) start now new searched.at_least at_least;
      }

      -- the checks up to a file, whatever comes after it
      pub up_to_one : (most : ℕ) → IsSum Cost (keys delivered) most
          → RaisedBy (λ n. n ≤ most) start new
      up_to_one most cost =
          let split : keys delivered ≡ paths_of next ++ paths_of rest = ap paths_of all_next
          ∙ map-append (λ (f : List ℕ × DigestSet). f.0) next rest in
          let parts = sum_append Cost (paths_of next) (paths_of rest) most
          (subst (λ ps. IsSum Cost ps most) split cost) in
          let total = parts.4 in
          let h = next_at_most parts.0 parts.2 in
          let few = h.1 in
          (h.0, omega arith, h.2)

    -- the first file that lacks provenance
    pub one_lacks : (e : Failure) → RefusedAs (FileLacks panel expectations envelopes file) e
        → RefusedAs (IsFirst (FileLacks panel expectations envelopes) (entries delivered)) e
    one_lacks e lacks = first_lacks panel expectations envelopes (entries delivered) searched.done
        file rest e searched.all searched.proven lacks

  module _ (now : Meter) (searched : Searched now []) where
    all_done : entries delivered ≡ searched.done
    all_done = searched.all ∙ append-nil searched.done

    pub all_searched : AllByRecursion (FileProven panel expectations envelopes) (entries delivered)
    all_searched = subst (AllByRecursion (FileProven panel expectations envelopes))
        (sym all_done) searched.proven

    pub all_at_most : (most : ℕ) → IsSum Cost (keys delivered) most
        → RaisedBy (λ n. n ≤ most) start now
    all_at_most most cost =
        searched.at_most most (subst (λ files. IsSum Cost (paths_of files) most) all_done cost)

    pub all_at_least : RaisedBy (AtLeast (IsSum Asks (entries delivered))) start now
    all_at_least = subst (λ files. RaisedBy (AtLeast (IsSum Asks files)) start now)
        (sym all_done) searched.at_least
