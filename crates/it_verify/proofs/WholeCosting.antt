-- How many checks a verification asks for, from what each of its parts asks for.
use Rattle.std.proofs.Common.{◌≡◌, ℕ, ◌+◌, ◌≤◌, List, [], ◌∷◌, map, length}
use Rattle.std.proofs.Common.{⊎_elim, refl, sym, ap, subst, ◌∙◌, arith}
use Rattle.std.specs.FinMap.{entries, keys, len, len-entries}
use Rattle.std.specs.List.{sum_by}
use Rattle.std.proofs.lemmas.List.{length-map}
use Rattle.std.proofs.lemmas.List.Sums.{sum_by-cons}
use Rattle.it_base.specs.Sum.{IsSum}
use Rattle.it_digest.specs.Sums.{lines_of}
use Rattle.it_digest.specs.declared.compare.DigestSet.{DigestSet}
use Rattle.it_dsse.specs.Panel.{Panel}
use Rattle.it_dsse.specs.Meter.{RaisedBy, raised}
use Rattle.it_dsse.specs.declared.envelope.Envelope.{Envelope}
use Rattle.it_dsse.specs.declared.meter.Meter.{Meter}
use Rattle.it_dsse.proofs.Tries.{signed_tries}
use Rattle.it_docs.specs.Policy.{PolicyOf}
use Rattle.it_docs.specs.declared.policy.Expectation.{Expectation}
use Rattle.it_docs.specs.declared.policy.Policy.{Policy}
use Rattle.it_docs.proofs.Same.{policy_same}
use Rattle.it_chain.specs.declared.chain.StepResult.{StepResult}
use Rattle.it_chain.proofs.SomeCost.{some_fewest}
use Rattle.it_prov.specs.Asked.{AtLeast}
use Rattle.it_prov.specs.Cost.{signature_count}
use Rattle.it_prov.specs.ProvenanceLines.{AreReadFrom}
use Rattle.it_prov.proofs.Asking.{raised_then}
use Rattle.it_verify.specs.VerificationCost.{VerificationCosts, FilesCost, LinesHave, LinksCost}
use Rattle.it_verify.specs.VerificationCost.{OwnersCost}
use Rattle.it_verify.specs.Documents.{Documents, ReadAs, setting_of}
use Rattle.it_verify.specs.VerificationTakes.{AsksEnough, FileTakes, FilesTake, IsAskedFully}
use Rattle.it_verify.specs.VerificationTakes.{LinksTake, Takes, fewest, owner_tries}
use Rattle.it_verify.specs.inside.Provenance.{FileAsks}
use Rattle.it_verify.specs.inside.Taking.{TakesEnough}
use Rattle.it_verify.specs.Evidence.{Evidence}
use Rattle.it_verify.specs.Made.{verdict_of}
use Rattle.it_verify.specs.inside.DocumentsHold.{DocumentsHold}
use Rattle.it_verify.specs.declared.inputs.Inputs.{Inputs}
use Rattle.it_report.specs.declared.verdict.Verdict.{Verdict}
use Rattle.it_report.specs.declared.verdict.Verdict.TheVariants.{Accepted, Refused}
use Rattle.it_verify.proofs.Lines.{lines_have}
use Rattle.it_verify.proofs.OneReading.{read_alike}
use Rattle.it_verify.proofs.Owning.{owners_tried}
use Rattle.it_verify.proofs.ProvenanceFound.{file_takes}

raised_weaker : (P Q : ℕ → Type 0) → ((n : ℕ) → P n → Q n) → (old new : Meter) → RaisedBy P old new
    → RaisedBy Q old new
raised_weaker P Q f old new h = (h.0, f h.0 h.1, h.2)

sum_by-map : {X Y : Type 0} (f : Y → ℕ) (g : X → Y) (xs : List X)
    → sum_by f (map g xs) ≡ sum_by (λ x. f (g x)) xs
sum_by-map f g [] = refl
sum_by-map f g (x ∷ xs) = sum_by-cons f (g x) (map g xs) ∙ ap (λ n. f (g x) + n) (sum_by-map f g xs)
    ∙ sym (sum_by-cons (λ y. f (g y)) x xs)

-- ---- at most
-- the delivered files, over the envelopes that the lines read as
pub files_cost : (inputs : Inputs) (documents : Documents) (envelopes : List Envelope)
    (places : List ℕ) → AreReadFrom 1 (lines_of inputs.provenance) envelopes places
    → (old new : Meter)
    → ((most : ℕ) → FilesCost documents (signature_count envelopes) most
    → RaisedBy (λ n. n ≤ most) old new)
    → (signatures most : ℕ) → LinesHave inputs signatures → FilesCost documents signatures most
    → RaisedBy (λ n. n ≤ most) old new
files_cost inputs documents envelopes places are old new raised signatures most lines cost =
    raised most (subst (λ n. FilesCost documents n most)
    (lines_have 1 (lines_of inputs.provenance) envelopes places are signatures lines) cost)

module _ (panel : Panel) (inputs : Inputs) (start now : Meter) (owners : (most : ℕ)
    → OwnersCost inputs most → RaisedBy (λ n. n ≤ most) start now) where
  -- after the owners
  pub owners_most : (most : ℕ) → VerificationCosts panel inputs most
      → RaisedBy (λ n. n ≤ most) start now
  owners_most most cost =
      let total = cost.sum in
      raised_weaker (λ n. n ≤ cost.owners) (λ n. n ≤ most) (λ n few. omega arith) start now
      (owners cost.owners cost.of_owners)

  module _ (documents : Documents) (read : ReadAs inputs documents) (then_now : Meter)
      (links : (most : ℕ) → LinksCost panel inputs documents most
      → RaisedBy (λ n. n ≤ most) now then_now) where
    both : (most : ℕ) (cost : VerificationCosts panel inputs most)
        → RaisedBy (λ n. n ≤ cost.owners + cost.links) start then_now
    both most cost =
        let of_links : LinksCost panel inputs documents cost.links =
        ⊎_elim (λ x. read_alike inputs (λ d. LinksCost panel inputs d cost.links) x.0 documents
        x.1 read x.2) (λ x. absurd (x.0 documents read)) cost.of_links in
        raised_then (λ n. n ≤ cost.owners) (λ n. n ≤ cost.links) (λ n. n ≤ cost.owners + cost.links)
        (λ m n p q. omega arith) start now then_now (owners cost.owners cost.of_owners)
        (links cost.links of_links)

    -- after the layout over the links
    pub links_most : (most : ℕ) → VerificationCosts panel inputs most
        → RaisedBy (λ n. n ≤ most) start then_now
    links_most most cost =
        let total = cost.sum in
        raised_weaker (λ n. n ≤ cost.owners + cost.links) (λ n. n ≤ most) (λ n few. omega arith)
        start then_now (both most cost)

    -- after the delivered files
    pub files_most : (new : Meter) → ((signatures most : ℕ) → LinesHave inputs signatures
        → FilesCost documents signatures most → RaisedBy (λ n. n ≤ most) then_now new)
        → (most : ℕ) → VerificationCosts panel inputs most → RaisedBy (λ n. n ≤ most) start new
    files_most new files most cost =
        let of_files : FilesCost documents cost.signatures cost.files =
        ⊎_elim (λ x. read_alike inputs (λ d. FilesCost d cost.signatures cost.files) x.0
        documents x.1 read x.2) (λ x. absurd (x.0 documents read)) cost.of_files in
        let total = cost.sum in
        raised_then (λ n. n ≤ cost.owners + cost.links) (λ n. n ≤ cost.files) (λ n. n ≤ most)
        (λ m n p q. omega arith) start then_now new (both most cost)
        (files cost.signatures cost.files cost.of_lines of_files)

-- ---- at least
sum_weaker : {X : Type 0} (P Q : X → ℕ → Type 0) → ((x : X) (n : ℕ) → P x n → Q x n)
    → (xs : List X) (n : ℕ) → IsSum P xs n → IsSum Q xs n
sum_weaker P Q f [] n h = h
sum_weaker P Q f (x ∷ xs) n h = (h.0, h.1, f x h.0 h.2, sum_weaker P Q f xs h.1 h.3, h.4)

-- each delivered file takes a check
files_each : (panel : Panel) (inputs : Inputs) (expectations : List Expectation)
    (files : List (List ℕ × DigestSet)) (n : ℕ) → IsSum (FileTakes panel inputs expectations) files
    n → length files ≤ n
files_each panel inputs expectations [] n h = omega arith
files_each panel inputs expectations (file ∷ files) n h =
    let signer = h.2.asked.meets.besides_level.signed in
    let some = signed_tries panel h.2.envelope signer.id signer.object signer.key signer.signed in
    let first = h.2.asked.tried in
    let others = files_each panel inputs expectations files h.1 h.3 in
    let total = h.4 in
    omega arith

-- the delivered files, over the envelopes that the lines read as
pub files_take : (panel : Panel) (inputs : Inputs) (documents : Documents)
    (envelopes : List Envelope) (places : List ℕ)
    → AreReadFrom 1 (lines_of inputs.provenance) envelopes places → (old new : Meter)
    → RaisedBy (AtLeast (IsSum (FileAsks panel documents.policy.expectations envelopes)
    (entries documents.delivered))) old new
    → RaisedBy (AtLeast (FilesTake panel inputs documents)) old new
files_take panel inputs documents envelopes places are old new h =
    let asked = h.1 in
    let take = sum_weaker (FileAsks panel documents.policy.expectations envelopes)
    (FileTakes panel inputs documents.policy.expectations)
    (file_takes panel inputs documents.policy.expectations envelopes places are)
    (entries documents.delivered) asked.0 asked.1 in
    (h.0, (asked.0, take, asked.2), h.2)

module _ (panel : Panel) (inputs : Inputs) (documents : Documents)
    (hold : DocumentsHold panel inputs documents) (evidence : Evidence) where
  fewest_is : (policy : Policy) → PolicyOf inputs.policy policy
      → fewest policy (map (λ (r : StepResult). (r.name, r.keys)) evidence.steps)
      (keys documents.delivered) ≡ len documents.policy.owners + sum_by
      (λ (r : StepResult). r.keys) evidence.steps + len documents.delivered
  fewest_is policy is_policy =
      let owners = ap (λ (p : Policy). len p.owners)
      (policy_same inputs.policy policy documents.policy is_policy hold.read.policy) in
      let signed = sum_by-map (λ (s : List ℕ × ℕ). s.1) (λ (r : StepResult). (r.name, r.keys))
      evidence.steps in
      let files : length (keys documents.delivered) ≡ len documents.delivered =
      length-map (entries documents.delivered) (λ (e : List ℕ × DigestSet). e.0)
      ∙ sym (len-entries documents.delivered) in
      λ i. owners i + signed i + files i

  abbrev tried : ℕ
  tried = owner_tries panel documents.envelope documents.policy.owners

  module _ (start now then_now new : Meter) (counted : now ≡ raised start tried)
      (files : RaisedBy (AtLeast (FilesTake panel inputs documents)) then_now new) where
    takes_all : ((least : ℕ) → LinksTake panel inputs documents least
        → RaisedBy (λ n. least ≤ n) now then_now)
        → RaisedBy (AtLeast (Takes panel inputs)) start new
    takes_all links =
        let some = some_fewest (setting_of panel documents) inputs.depth documents.layout
        inputs.links in
        let owners : RaisedBy (λ n. tried ≤ n) start now = (tried, omega arith, counted) in
        let both = raised_then (λ n. tried ≤ n) (λ n. some.0 ≤ n) (λ n. tried + some.0 ≤ n)
        (λ m n p q. omega arith) start now then_now owners (links some.0 some.1) in
        raised_then (λ n. tried + some.0 ≤ n) (AtLeast (FilesTake panel inputs documents))
        (AtLeast (Takes panel inputs))
        (λ m n p q. (
          tried + some.0 + q.0,
          record {
            documents = documents;
            links = some.0;
            files = q.0;
            read = hold.read;
            of_links =
                some.1;
            of_files = q.1;
            sum = refl;
          },
          omega (arith, p, q.2),
        ))
        start then_now new both files

    takes_each : RaisedBy (λ n. sum_by (λ (r : StepResult). r.keys) evidence.steps ≤ n) now then_now
        → RaisedBy (λ n. len documents.policy.owners + sum_by (λ (r : StepResult). r.keys)
        evidence.steps + len documents.delivered ≤ n) start new
    takes_each steps =
        let signed = sum_by (λ (r : StepResult). r.keys) evidence.steps in
        let owned = len documents.policy.owners in
        let owners : RaisedBy (λ n. owned ≤ n) start now = (
          tried,
          owners_tried panel documents.envelope documents.policy.owners hold.owners,
          counted,
        ) in
        let both = raised_then (λ n. owned ≤ n) (λ n. signed ≤ n) (λ n. owned + signed ≤ n)
        (λ m n p q. omega arith) start now then_now owners steps in
        raised_then (λ n. owned + signed ≤ n) (AtLeast (FilesTake panel inputs documents))
        (λ n. owned + signed + len documents.delivered ≤ n)
        (λ m n p q. let each = files_each panel inputs documents.policy.expectations
        (entries documents.delivered) q.0 q.1 in
        omega (arith, p, q.2, each, len-entries documents.delivered))
        start then_now new both files

    pub takes_enough : (answer : Verdict) → answer ≡ verdict_of documents evidence
        → ((least : ℕ) → LinksTake panel inputs documents least
        → RaisedBy (λ n. least ≤ n) now then_now)
        → RaisedBy (λ n. sum_by (λ (r : StepResult). r.keys) evidence.steps ≤ n) now then_now
        → TakesEnough panel inputs start new answer
    takes_enough answer is links steps =
        subst (TakesEnough panel inputs start new) (sym is) (
          takes_all links,
          λ policy is_policy. subst (λ k. RaisedBy (λ n. k ≤ n) start new)
              (sym (fewest_is policy is_policy)) (takes_each steps),
        )

-- ---- the count of an answer, which begins at 0
module _ (start new : Meter) (from_zero : start.asked ≡ 0) where
  pub asked_most : (most : ℕ) → RaisedBy (λ n. n ≤ most) start new → new.asked ≤ most
  asked_most most h =
      let few = h.1 in
      let is = ap (λ (m : Meter). m.asked) h.2 in
      omega arith

  asked_enough : (least : ℕ) → RaisedBy (λ n. least ≤ n) start new → IsAskedFully new.asked least
  asked_enough least h =
      let many = h.1 in
      let is = ap (λ (m : Meter). m.asked) h.2 in
      omega arith

  pub asks_enough : (panel : Panel) (inputs : Inputs) (answer : Verdict)
      → TakesEnough panel inputs start new answer → AsksEnough panel inputs new.asked answer
  asks_enough panel inputs (Accepted steps files) h =
      let all = h.0 in
      let takes = all.1 in (
        (takes.0, takes.1, asked_enough takes.0 (all.0, takes.2, all.2)),
        λ policy is_policy. asked_enough (fewest policy steps files) (h.1 policy is_policy),
      )
  asks_enough panel inputs (Refused refusal) h = tt
