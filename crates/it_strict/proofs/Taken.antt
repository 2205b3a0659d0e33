-- Where nothing is found, each delivered file is a product of a step.
use Rattle.std.proofs.Common.{◌≡◌, ◌∙◌, ◌++◌, inl, inr, ℕ, List, [], Some, Contains, is_some}
use Rattle.std.proofs.Common.{arith, ap, length, subst, sym}
use Rattle.std.specs.FinMap.{get}
use Rattle.std.specs.List.{slice_get}
use Rattle.std.proofs.lemmas.Option.{slice_get-get_or}
use Rattle.it_digest.specs.Compare.{Agree}
use Rattle.it_digest.specs.declared.compare.DigestSet.{DigestSet}
use Rattle.it_dsse.specs.Panel.{Panel}
use Rattle.it_docs.specs.declared.rule.Rule.{Rule}
use Rattle.it_docs.specs.declared.rule.Rule.TheVariants.{Match}
use Rattle.it_docs.specs.declared.rule.Side.TheVariants.{Products}
use Rattle.it_rules.specs.FolderPrefix.{folder_prefix}
use Rattle.it_rules.specs.Item.{Recorded}
use Rattle.it_rules.specs.Rules.{Claims, IsFree, Stands}
use Rattle.it_chain.specs.StepRules.{recorded_in}
use Rattle.it_ties.specs.Ties.{Ties}
use Rattle.it_verify.specs.Delivered.{delivery}
use Rattle.it_verify.specs.Evidence.{IsEvidence, evidence_links}
use Rattle.it_verify.specs.declared.documents.Documents.{Documents}
use Rattle.it_verify.specs.declared.evidence.Evidence.{Evidence}
use Rattle.it_verify.specs.declared.inputs.Inputs.{Inputs}
use Rattle.it_strict.specs.StrictLaws.{DeliveredAreProducts, IsProduct}
use Rattle.it_strict.proofs.Stepped.{linked_is, step_with}
use Rattle.it_strict.proofs.Tying.{tied_or_not}

module _ (panel : Panel) (inputs : Inputs) (documents : Documents) (evidence : Evidence)
    (is_evidence : IsEvidence panel inputs documents evidence) (path : List ℕ)
    (digests : DigestSet) (delivered : get documents.delivered path ≡ Some digests) where
  -- what a rule claims that ties it to a step is a product of the step
  taken_by : (place : ℕ) (rule : Rule) → slice_get documents.policy.deliver place ≡ Some rule
      → Ties documents.layout.steps rule
      → IsFree documents.policy.deliver Products (delivery documents.delivered)
      (evidence_links evidence) place path
      → Claims rule Products (delivery documents.delivered) (evidence_links evidence) path
      → IsProduct panel inputs documents evidence path digests
  taken_by place (Match pattern source Products target from) stands ties free claims =
      let steps = documents.layout.steps in
      let step = ties.1 in
      let at : slice_get steps ties.0 ≡ Some step =
      slice_get-get_or steps ties.0 step ties.2 ∙ ap Some ties.3 in
      let back : from ≡ step.name = sym ties.4 in
      let found = step_with panel inputs documents evidence is_evidence ties.0 step at in
      let result = found.0 in
      let named : Contains (evidence_links evidence) (step.name, claims.linked) =
      subst (λ n. Contains (evidence_links evidence) (n, claims.linked)) back claims.is_named in
      let linked : claims.linked ≡ recorded_in result =
      linked_is panel inputs documents evidence is_evidence ties.0 step result found.1 claims.linked
      named in
      let found_here : Some claims.here ≡ Some digests = sym claims.stands_here ∙ delivered in
      let here : claims.here ≡ digests = cc found_here in
      record {
        place = ties.0;
        step = step;
        result = result;
        is_step = found.1;
        is_taken = record {
          place = place;
          pattern = pattern;
          source = source;
          target = target;
          rest = claims.rest;
          product = claims.there;
          is_rule = subst (λ n. slice_get documents.policy.deliver place
              ≡ Some (Match pattern source Products target n)) back stands;
          is_first = free;
          under_source = claims.under_source;
          is_match = claims.is_match;
          is_product = subst (λ (r : Recorded). get r.products
              (folder_prefix target ++ claims.rest) ≡ Some claims.there) linked claims.stands_there;
          digests_agree = subst (λ d. Agree d claims.there) here claims.digests_agree;
        };
      }
  taken_by place rule stands ties free claims = absurd ties

-- nothing is in an empty list
none_in : {X : Type 0} (xs : List X) (x : X) → xs ≡ [] → ¬ Contains xs x
none_in xs x empty h = let long = ap length empty in omega (arith, h.1, long)

pub delivered_are_products : DeliveredAreProducts
delivered_are_products panel inputs documents evidence found path digests made are nothing at =
    let stands : Stands documents.delivered path = ap is_some at in
    elim (tied_or_not documents.policy.deliver (delivery documents.delivered)
    (evidence_links evidence) path stands documents.layout.steps) [
      | inl tied ↦ taken_by panel inputs documents evidence made.is_evidence path digests at
          tied.place tied.rule tied.stands tied.ties tied.is_free tied.claims
      | inr free ↦ absurd
          (none_in found.untied path nothing.untied ((are.untied.exact path).1 (stands, free)))
    ]
