-- Deciding functions to match the definitions: the result of a layout over a bundle, for one level
-- given the answers of its sublayouts, and then for every depth. Nothing here is trusted.
use Rattle.std.specs.Prelude.{ℕ, zero, suc, List, [], ◌∷◌, map, filter, if◌then◌else◌, Option, Some}
use Rattle.std.specs.Prelude.{None, option_map, Result, Ok, Err, nat_lt, codes}
use Rattle.std.specs.Int.RustNames.{int_lt}
use Rattle.std.specs.List.{filter_map, list_all, list_any}
use Rattle.std.specs.Set.{distinct_count}
use Rattle.std.specs.Str.{bytes_eq}
use Rattle.std.specs.FinMap.{entries}
use Rattle.it_dsse.specs.Panel.{KeyNumber}
use Rattle.it_dsse.specs.Signed.{message_of}
use Rattle.it_dsse.specs.Vouched.{is_vouched}
use Rattle.it_dsse.specs.declared.envelope.Envelope.{Envelope}
use Rattle.it_dsse.specs.declared.key_object.KeyObject.{KeyObject}
use Rattle.it_docs.specs.declared.layout.Layout.{Layout}
use Rattle.it_docs.specs.declared.step.Inspection.{Inspection}
use Rattle.it_docs.specs.declared.step.Step.{Step}
use Rattle.it_docs.specs.declared.link.Link.{Link}
use Rattle.it_docs.specs.declared.rule.Side.{Side}
use Rattle.it_docs.specs.declared.rule.Side.TheVariants.{Materials, Products}
use Rattle.it_rules.specs.Item.{Recorded, Links}
use Rattle.it_chain.specs.Contents.{Contents, files_of}
use Rattle.it_chain.specs.CountedBodies.{Setting, Body, of_link, of_layout}
use Rattle.it_chain.specs.Threshold.{same_key}
use Rattle.it_chain.specs.First.{here, under}
use Rattle.it_chain.specs.StepRules.{links_in, recorded_in, rules_on}
use Rattle.it_chain.specs.Summary.{summary}
use Rattle.it_chain.specs.Lower.{Lower}
use Rattle.it_chain.specs.Sublayouts.{folder_of}
use Rattle.it_chain.specs.declared.chain.StepResult.{StepResult}
use Rattle.it_chain.specs.declared.record.IdRecord.{IdRecord}
use Rattle.it_chain.specs.declared.refusal.ChainFault.TheVariants.{Expired, TwoPayloads, TooDeep}
use Rattle.it_chain.specs.declared.refusal.ChainFault.TheVariants.{Threshold, Disagree}
use Rattle.it_chain.specs.declared.refusal.ChainFault.TheVariants.{InspectionInSublayout}
use Rattle.it_chain.specs.declared.refusal.ChainFault.TheVariants.{RuleFailed}
use Rattle.it_chain.specs.declared.refusal.ChainRefusal.{ChainRefusal}
use Rattle.it_chain.specs.declared.refusal.RuleItem.TheVariants.{Step as of_step}

infixl 10 ◌>>=◌
abbrev pub ◌>>=◌ : {A B : Type 0} → Result A ChainRefusal → (A → Result B ChainRefusal)
    → Result B ChainRefusal
(Ok x) >>= f = f x
(Err refusal) >>= f = Err refusal

-- a refusal of a sublayout, put under the pair that leads to it
abbrev pub put_under : {A : Type 0} → List ℕ → List ℕ → Result A ChainRefusal
    → Result A ChainRefusal
put_under step id (Ok x) = Ok x
put_under step id (Err refusal) = Err (under step id refusal)

-- the bodies that count for an id: none, one, or several that differ
pub data Bodies : Type 0 where
  no_body : Bodies
  one_body : Body → Bodies
  several : Bodies

-- the ids that a step lists and the layout has, with their objects, in the order of the ids' bytes
abbrev pub signers : Layout → Step → List (List ℕ × KeyObject)
signers layout step =
    filter (λ entry. list_any (bytes_eq entry.0) step.pubkeys) (entries layout.keys)

-- what the sublayouts of a level answer
abbrev pub Answering : Type 0
Answering = Layout → Contents → Result (List StepResult) ChainRefusal

-- the link if it has the step's name, otherwise the other body
abbrev pub link_or : Step → Option Link → Option Body → Option Body
link_or step None other = other
link_or step (Some link) other = if bytes_eq link.name step.name then Some (of_link link) else other

-- no body, one where all the payloads are equal, or several
abbrev pub bodies_in : List (List ℕ × Body) → Bodies
bodies_in [] = no_body
bodies_in (first ∷ others) =
    if list_all (λ other. bytes_eq other.0 first.0) others then one_body first.1 else several

-- the record of an id, if it has one, before those of the ids after it
abbrev pub with_record : Option IdRecord → List IdRecord → List IdRecord
with_record None records = records
with_record (Some r) records = r ∷ records

-- the answer for a rule that fails, or for none
abbrev pub fault_answer : Step → Side → Option (ℕ × List ℕ) → Result (Unit {0}) ChainRefusal
fault_answer step side None = Ok tt
fault_answer step side (Some fault) =
    Err (here (RuleFailed (of_step step.name) side fault.0 fault.1))

-- the answer for a sublayout that is too deep
abbrev pub no_deeper : Answering
no_deeper layout bundle = Err (here TooDeep)

abbrev pub unless_inspected : List Inspection → Result (List StepResult) ChainRefusal
    → Result (List StepResult) ChainRefusal
unless_inspected [] answer = answer
unless_inspected (inspection ∷ inspections) answer = Err (here InspectionInSublayout)

module _ (sub : Answering) (bundle : Contents) where
  -- the artifacts that a body yields
  abbrev pub body_answer : Step → List ℕ → Body → Result Recorded ChainRefusal
  body_answer step id (of_link link) =
      Ok (record { materials = link.materials; products = link.products })
  body_answer step id (of_layout sublayout) =
      put_under step.name id (sub sublayout (folder_of step.name id bundle)) >>= λ results. Ok
      (summary results)

  abbrev pub bodies_answer : Step → List ℕ → KeyNumber → Bodies
      → Result (Option IdRecord) ChainRefusal
  bodies_answer step id key no_body = Ok None
  bodies_answer step id key several = Err (here (TwoPayloads step.name id))
  bodies_answer step id key (one_body body) =
      body_answer step id body >>= λ recorded. Ok
      (Some (record { id = id; key = key; recorded = recorded }))

module _ (lower : Lower) (setting : Setting) where
  -- the envelopes of the in-toto type in the files that are claimed for a step
  abbrev pub envelopes_for : Step → Contents → List Envelope
  envelopes_for step bundle =
      filter (λ envelope. bytes_eq envelope.payload_type (codes "application/vnd.in-toto+json"))
      (filter_map (λ file. lower.envelope_of file.bytes)
      (filter (λ file. lower.is_claimed step.name file.name) (files_of bundle)))

  -- the body that a payload is for a step, if any
  abbrev pub body_of : Step → List ℕ → Option Body
  body_of step payload =
      link_or step (lower.link_of payload) (option_map of_layout (lower.layout_of payload))

  -- the payloads that count for an id whose key has this number, each with its body
  abbrev pub payloads_for : Step → Contents → List ℕ → KeyNumber → List (List ℕ × Body)
  payloads_for step bundle id key =
      filter_map
      (λ envelope. option_map (λ body. (envelope.payload, body)) (body_of step envelope.payload))
      (filter
      (λ envelope. is_vouched setting.panel id key (message_of envelope) envelope.signatures)
      (envelopes_for step bundle))

  module _ (sub : Answering) (layout : Layout) (bundle : Contents) where
    abbrev pub key_answer : Step → List ℕ → Option KeyNumber → Result (Option IdRecord) ChainRefusal
    key_answer step id None = Ok None
    key_answer step id (Some key) =
        bodies_answer sub bundle step id key (bodies_in (payloads_for step bundle id key))

    -- the record of an id, if it counts
    unfoldable pub id_answer : Step → List ℕ × KeyObject → Result (Option IdRecord) ChainRefusal
    id_answer step signer = key_answer step signer.0 (setting.panel.key_of signer.0 signer.1)

    -- the records of the ids that count
    abbrev pub ids_answer : Step → List (List ℕ × KeyObject) → Result (List IdRecord) ChainRefusal
    ids_answer step [] = Ok []
    ids_answer step (signer ∷ signers) =
        id_answer step signer >>= λ r. ids_answer step signers >>= λ records. Ok
        (with_record r records)

    -- whether the records agree with the first
    abbrev pub agreed : Step → ℕ → Recorded → List IdRecord → Result StepResult ChainRefusal
    agreed step found first [] =
        Ok
        (record {
          name = step.name;
          materials = first.materials;
          products = first.products;
          keys = found;
        })
    agreed step found first (r ∷ records) =
        if lower.is_same r.recorded first then agreed step found first records
        else Err (here (Disagree step.name r.id))

    abbrev pub agreement : Step → ℕ → List IdRecord → Result StepResult ChainRefusal
    agreement step found [] = Err (here (Threshold step.name found step.threshold))
    agreement step found (r ∷ records) = agreed step found r.recorded records

    -- whether enough different keys signed, and the records agree
    unfoldable pub judged : Step → List IdRecord → Result StepResult ChainRefusal
    judged step records =
        let found = distinct_count same_key (map (λ r. r.key) records) in
        if nat_lt found step.threshold then Err (here (Threshold step.name found step.threshold))
        else agreement step found records

    unfoldable pub step_answer : Step → Result StepResult ChainRefusal
    step_answer step = ids_answer step (signers layout step) >>= judged step

    abbrev pub steps_answer : List Step → Result (List StepResult) ChainRefusal
    steps_answer [] = Ok []
    steps_answer (step ∷ steps) =
        step_answer step >>= λ result. steps_answer steps >>= λ results. Ok (result ∷ results)

  -- whether the rules of a step hold on a side
  unfoldable pub side_answer : Links → Step → StepResult → Side → Result (Unit {0}) ChainRefusal
  side_answer links step result side =
      fault_answer step side (lower.fault_of (rules_on side step) side (recorded_in result) links)

  abbrev pub rules_answer : Links → List Step → List StepResult → Result (Unit {0}) ChainRefusal
  rules_answer links [] results = Ok tt
  rules_answer links (step ∷ steps) [] = Ok tt
  rules_answer links (step ∷ steps) (result ∷ results) =
      side_answer links step result Materials >>= λ _.
      side_answer links step result Products >>= λ _. rules_answer links steps results

  -- a level, given the answers of its sublayouts
  unfoldable pub level_answer : Answering → Answering
  level_answer sub layout bundle =
      if int_lt layout.expires setting.moment then Err (here Expired)
      else
      (steps_answer sub layout bundle layout.steps >>= λ results. rules_answer
      (links_in results) layout.steps results >>= λ _. Ok results)

  -- the result of a layout over a bundle, down to a depth of sublayouts
  unfoldable pub answer : ℕ → Answering
  answer zero = level_answer no_deeper
  answer (suc depth) =
      level_answer
      (λ layout bundle. unless_inspected layout.inspections (answer depth layout bundle))
