-- The first part of a policy that fails.
use Rattle.std.proofs.Common.{◌≡◌, inl, inr, ℕ, ◌<◌, List, Result, Ok, Err, MatchResult, IfErr}
use Rattle.std.proofs.Common.{subst, sym, arith}
use Rattle.serde_json.specs.Data.{Data}
use Rattle.it_base.specs.Document.{IsDocument}
use Rattle.it_base.proofs.Documents.{same_document}
use Rattle.it_docs.specs.FirstPart.{IsFirstPart, Precedes}
use Rattle.it_docs.specs.Policy.{IsPolicy}
use Rattle.it_docs.specs.PolicyPart.{place, PartReads, PolicyPartOf}
use Rattle.it_docs.specs.inside.PolicyFaults.{IsExpectationsFault, IsPolicyFault}
use Rattle.it_docs.specs.declared.policy.Policy.{Policy}
use Rattle.it_docs.specs.declared.policy_fault.PolicyFault.{PolicyFault}
use Rattle.it_docs.specs.declared.policy_fault.PolicyFault.TheVariants.{BadPolicy, OutOfMemory}
use Rattle.it_docs.specs.declared.policy_fault.PolicyPart.{PolicyPart}
use Rattle.it_docs.specs.declared.policy_fault.PolicyPart.TheVariants.{Json, Owners, Deliver}
use Rattle.it_docs.specs.declared.policy_fault.PolicyPart.TheVariants.{Expectations, Expectation}

-- what stands before the expectations
pub record IsHead (d : Data) : Type 0 where
  pub json : PartReads d Json
  pub owners : PartReads d Owners
  pub deliver : PartReads d Deliver

head_reads : (d : Data) → IsHead d → (other : PolicyPart) → (place other).0 < 3 → PartReads d other
head_reads d head Json h = head.json
head_reads d head Owners h = head.owners
head_reads d head Deliver h = head.deliver
head_reads d head Expectations h = absurd (omega arith)
head_reads d head (Expectation n) h = absurd (omega arith)

row_before : {d : Data} {r : ℕ} (reads : (other : PolicyPart) → (place other).0 < r
    → PartReads d other) (other : PolicyPart) → Precedes (place other) (r, 0) → PartReads d other
row_before reads other (inl h) = reads other h
row_before reads other (inr h) = absurd (omega (arith, h.1))

json_reads : (d : Data) → PartReads d Json → (other : PolicyPart) → (place other).0 < 1
    → PartReads d other
json_reads d json Json h = json
json_reads d json Owners h = absurd (omega arith)
json_reads d json Deliver h = absurd (omega arith)
json_reads d json Expectations h = absurd (omega arith)
json_reads d json (Expectation n) h = absurd (omega arith)

owners_read : (d : Data) → PartReads d Json → PartReads d Owners → (other : PolicyPart)
    → (place other).0 < 2 → PartReads d other
owners_read d json owners Json h = json
owners_read d json owners Owners h = owners
owners_read d json owners Deliver h = absurd (omega arith)
owners_read d json owners Expectations h = absurd (omega arith)
owners_read d json owners (Expectation n) h = absurd (omega arith)

pub owners_fault : (d : Data) → PartReads d Json → ¬ PartReads d Owners
    → IsPolicyFault d (BadPolicy Owners)
owners_fault d json none = record { fails = none; before = row_before (json_reads d json) }

pub deliver_fault : (d : Data) → PartReads d Json → PartReads d Owners → ¬ PartReads d Deliver
    → IsPolicyFault d (BadPolicy Deliver)
deliver_fault d json owners none = record {
  fails = none;
  before = row_before (owners_read d json owners);
}

before_item : (d : Data) → IsHead d → PartReads d Expectations → (n : ℕ)
    → ((m : ℕ) → m < n → PartReads d (Expectation m)) → (other : PolicyPart)
    → Precedes (place other) (4, n) → PartReads d other
before_item d head list n before Json less = head.json
before_item d head list n before Owners less = head.owners
before_item d head list n before Deliver less = head.deliver
before_item d head list n before Expectations less = list
before_item d head list n before (Expectation m) (inl h) = absurd (omega arith)
before_item d head list n before (Expectation m) (inr h) = before m h.1

pub expectations_fault : (d : Data) → IsHead d → (e : PolicyFault) → IsExpectationsFault d e
    → IsPolicyFault d e
expectations_fault d head (BadPolicy part) (inl h) =
    subst (IsFirstPart place (PartReads d)) (sym h.0)
    (record { fails = h.1; before = row_before (head_reads d head) })
expectations_fault d head (BadPolicy part) (inr h) =
    subst (IsFirstPart place (PartReads d)) (sym h.1)
    (record { fails = h.2.1; before = before_item d head h.2.0 h.0 h.2.2 })
expectations_fault d head OutOfMemory h = tt

-- what fails first in the document, fails first in the bytes
pub fault_of_document : (bytes : List ℕ) (d : Data) (part : PolicyPart) → IsDocument bytes d
    → IsPolicyFault d (BadPolicy part) → PolicyPartOf bytes part
fault_of_document bytes d part is h = record {
  fails = λ reads. h.fails (subst (λ e. PartReads e part) (same_document bytes reads.0 d reads.1 is)
      reads.2);
  before = λ other less. (d, is, h.before other less);
}

pub bad_of_document : (bytes : List ℕ) (d : Data) → IsDocument bytes d
    → (read : Result Policy PolicyFault) → MatchResult read (IsPolicy d) (IsPolicyFault d)
    → IfErr read (λ e. (part : PolicyPart) → e ≡ BadPolicy part → PolicyPartOf bytes part)
bad_of_document bytes d is (Ok policy) h = tt
bad_of_document bytes d is (Err e) h = λ part same. fault_of_document bytes d part is
    (subst (IsPolicyFault d) same h)
