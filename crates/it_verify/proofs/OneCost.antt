-- That a verification of inputs costs one number of checks.
use Rattle.std.proofs.Common.{◌≡◌, ℕ, ◌+◌, ◌*◌, List, length, sym, subst, ◌∙◌}
use Rattle.std.specs.FinMap.{keys, len}
use Rattle.it_base.specs.Sum.{CostsIfFound}
use Rattle.it_base.proofs.Sums.{IsOne, one_if_found, one_sum}
use Rattle.it_digest.specs.Sums.{lines_of}
use Rattle.it_dsse.specs.Panel.{Panel}
use Rattle.it_dsse.specs.Envelope.{EnvelopeOf}
use Rattle.it_dsse.specs.declared.envelope.Envelope.{Envelope}
use Rattle.it_docs.specs.declared.policy.Expectation.{Expectation}
use Rattle.it_docs.specs.declared.policy.Policy.{Policy}
use Rattle.it_docs.proofs.Same.{policy_same}
use Rattle.it_chain.specs.Cost.{HasSignatures}
use Rattle.it_chain.proofs.Documents.{envelope_same}
use Rattle.it_chain.proofs.OneCost.{one_cost}
use Rattle.it_prov.specs.Cost.{key_count}
use Rattle.it_prov.specs.Fits.{Fits}
use Rattle.it_prov.proofs.OneFit.{fits_one}
use Rattle.it_verify.specs.VerificationCost.{AreOwners, VerificationCosts, FileCosts, FilesCost}
use Rattle.it_verify.specs.VerificationCost.{LinksCost}
use Rattle.it_verify.specs.Documents.{ReadAs, setting_of}
use Rattle.it_verify.specs.declared.inputs.Inputs.{Inputs}
use Rattle.it_verify.proofs.OneReading.{read_one}

one_line : IsOne (λ (line : List ℕ). CostsIfFound (EnvelopeOf line) HasSignatures)
one_line line = one_if_found (EnvelopeOf line) HasSignatures (envelope_same line)
    (λ envelope m n h k. h ∙ sym k)

one_file : (expectations : List Expectation) (signatures : ℕ)
    → IsOne (FileCosts expectations signatures)
one_file expectations signatures path =
    one_if_found (Fits expectations path)
    (λ expectation n. n ≡ key_count expectation.builders * signatures)
    (fits_one expectations path) (λ expectation m n h k. h ∙ sym k)

module _ (panel : Panel) (inputs : Inputs) where
  same_owners : (x y : Policy × Envelope) → AreOwners inputs x → AreOwners inputs y → x ≡ y
  same_owners x y h k =
      let policy = policy_same inputs.policy x.0 y.0 h.0 k.0 in
      let envelope = envelope_same inputs.layout x.1 y.1 h.1 k.1 in
      λ i. (policy i, envelope i)

  pub inputs_one_cost : (m n : ℕ) → VerificationCosts panel inputs m
      → VerificationCosts panel inputs n → m ≡ n
  inputs_one_cost m n a b =
      let owners = one_if_found (AreOwners inputs)
      (λ read n. n ≡ len read.0.owners * length read.1.signatures) same_owners
      (λ read m n h k. h ∙ sym k) a.owners b.owners a.of_owners b.of_owners in
      let links = one_if_found (ReadAs inputs) (LinksCost panel inputs) (read_one inputs)
      (λ documents. one_cost (setting_of panel documents) inputs.depth documents.layout
      inputs.links) a.links b.links a.of_links b.of_links in
      let lines = one_sum (λ (line : List ℕ). CostsIfFound (EnvelopeOf line) HasSignatures) one_line
      (lines_of inputs.provenance) a.signatures b.signatures a.of_lines b.of_lines in
      let same_lines = subst (λ s. CostsIfFound (ReadAs inputs) (λ documents. FilesCost documents s)
      b.files) (sym lines) b.of_files in
      let files = one_if_found (ReadAs inputs) (λ documents. FilesCost documents a.signatures)
      (read_one inputs)
      (λ documents. one_sum (FileCosts documents.policy.expectations a.signatures)
      (one_file documents.policy.expectations a.signatures) (keys documents.delivered)) a.files
      b.files a.of_files same_lines in
      a.sum ∙ (λ i. owners i + links i + files i) ∙ sym b.sum
